-- Earliest deadline first. Time is cut into slots, and a slot takes one cycle of one job, or idles. A job may run from its first slot on, and is
-- due at a slot. Where the jobs between any two slots have no more cycles than there are slots, each job gets its cycles in time.
-- Assumes nothing.
use mathlib.Core.Path.{◌≡◌, refl, sym, ◌∙◌}
use mathlib.Core.Bool.{Bool, true, false, ◌&&◌}
use mathlib.Core.Logic.{◌⊎◌, inl, inr}
use Prim.Native.Nat.{ℕ, zero, suc, ◌+◌, ◌-◌, ◌<◌, ◌≤◌}
use native.Mathlib.Nat.{le_trans, eq-zero-or-pos}
use native.Mathlib.Omega.{arith}
use lib.Dec.{ltb, leb, eqb}
use borrow.Author.Tests.{ltb-true, lt-ltb, leb-true, le-leb, lt-leb, eqb-true, eq-eqb, ne_eqb}
use Rattle.model.specs.Sum.{sum, only_if}
use Rattle.model.proofs.Numbers.{lt_or_le, true_or_false, true≢false, both_true}
use Rattle.model.proofs.Sum.{sum_mono, sum_term, sum_update}
use Rattle.model.proofs.Search.{first_or_none, least_index}

module _ (n : ℕ) (first due : ℕ → ℕ) where
  -- The job that a slot runs, by the cycles left of each: it may run and has some left, and no other such job is due earlier. A number from n
  -- on says that there is none.
  record EarliestDue (left : ℕ → ℕ) (slot k : ℕ) : Type 0 where
    ready : k < n → (first k ≤ slot) × (0 < left k)
    earliest : (j : ℕ) → j < n → first j ≤ slot → 0 < left j → (k < n) × (due k ≤ due j)

  choose : (left : ℕ → ℕ) (slot : ℕ) → (k : ℕ) × EarliestDue left slot k
  choose left slot = go (first_or_none n is_ready)
    where
      is_ready : ℕ → Bool
      is_ready j = leb (first j) slot && ltb 0 (left j)

      is-ready : (j : ℕ) → first j ≤ slot → 0 < left j → is_ready j ≡ true
      is-ready j released some = rw (le-leb (first j) slot released) (lt-ltb 0 (left j) some)

      go : ((i : ℕ) × (i < n) × ((k : ℕ) → k < i → is_ready k ≡ false) × (is_ready i ≡ true)) ⊎ ((k : ℕ) → k < n → is_ready k ≡ false)
          → (k : ℕ) × EarliestDue left slot k
      go (inl (i, below, before, here)) =
          let (k, inside, passes, least) = least_index n due is_ready i below here in
          let tests = both_true (leb (first k) slot) (ltb 0 (left k)) passes in (
            k,
            record {
              ready = λ h. (leb-true _ _ tests.0, ltb-true _ _ tests.1);
              earliest = λ j h released some. (inside, least j h (is-ready j released some));
            },
          )
      go (inr fails) = (
        n,
        record {
          ready = λ h. absurd (omega arith);
          earliest = λ j h released some. absurd (true≢false (sym (is-ready j released some) ∙ fails j h));
        },
      )

  module _ (cycles : ℕ → ℕ) where
    -- the cycles of a job that are left before a slot
    left : (slot job : ℕ) → ℕ
    left zero j = cycles j
    left (suc slot) j = left slot j - only_if (eqb (choose (left slot) slot).0 j) 1

    -- the job that a slot runs
    pub chosen : (slot : ℕ) → ℕ
    chosen slot = (choose (left slot) slot).0

    choice : (slot : ℕ) → EarliestDue (left slot) slot (chosen slot)
    unfolding chosen
    choice slot = (choose (left slot) slot).1

    -- the cycles of a job that a slot takes
    abbrev pub taken : (job slot : ℕ) → ℕ
    taken j slot = only_if (eqb (chosen slot) j) 1

    take_one : (slot j : ℕ) → j < n → left (suc slot) j + taken j slot ≡ left slot j
    unfolding left chosen
    take_one slot j below = go (true_or_false (eqb (chosen slot) j))
      where
        go : (eqb (chosen slot) j ≡ true) ⊎ (eqb (chosen slot) j ≡ false) → left (suc slot) j + taken j slot ≡ left slot j
        go (inl runs) =
            let same : chosen slot ≡ j = eqb-true (chosen slot) j runs in
            let some : 0 < left slot j = rw same at ((choice slot).ready (omega arith)).1 in
            rw runs (omega arith)
        go (inr other) = rw other (omega arith)

    taken_and_left : (slot j : ℕ) → j < n → sum slot (taken j) + left slot j ≡ cycles j
    unfolding left sum
    taken_and_left zero j below = omega arith
    taken_and_left (suc slot) j below = omega (arith, taken_and_left slot j below, take_one slot j below)

    -- the cycles left before a slot of the jobs due by an end
    due_by : (end slot : ℕ) → ℕ
    due_by end slot = sum n (λ j. only_if (leb (due j) end) (left slot j))

    module _ (fits : (start end : ℕ) → sum n (λ j. only_if (leb start (first j) && leb (due j) end) (cycles j)) ≤ end - start) where
      -- where a slot runs no job due by the end, those that have cycles left start later
      none_due : (slot end : ℕ) → (chosen slot < n → end < due (chosen slot)) → due_by end (suc slot) ≤ end - suc slot
      unfolding due_by
      none_due slot end late = le_trans (sum_mono n (λ j below. term j below (lt_or_le slot (first j)) (lt_or_le end (due j)))) (fits (suc slot) end)
        where
          done : (j : ℕ) → j < n → first j ≤ slot → due j ≤ end → (left slot j ≡ 0) ⊎ (0 < left slot j) → left (suc slot) j ≡ 0
          done j below released by (inl none) = omega (arith, take_one slot j below)
          done j below released by (inr some) =
              let (runs, sooner) = (choice slot).earliest j below released some in
              absurd (omega (arith, late runs))

          term : (j : ℕ) → j < n → (slot < first j) ⊎ (first j ≤ slot) → (end < due j) ⊎ (due j ≤ end)
              → only_if (leb (due j) end) (left (suc slot) j) ≤ only_if (leb (suc slot) (first j) && leb (due j) end) (cycles j)
          term j below starts (inl later) = rw (lt-leb (due j) end later) (omega arith)
          term j below (inl after) (inr by) =
              rw (le-leb (due j) end by, le-leb (suc slot) (first j) after) (omega (arith, taken_and_left (suc slot) j below))
          term j below (inr released) (inr by) =
              rw (le-leb (due j) end by, done j below released by (eq-zero-or-pos (left slot j))) (omega arith)

      -- where it runs one, a cycle is taken from them
      one_due : (slot end : ℕ) → chosen slot < n → due (chosen slot) ≤ end → due_by end slot ≡ due_by end (suc slot) + 1
      unfolding due_by
      one_due slot end below by =
          let k : ℕ = chosen slot in
          sum_update n (λ j. only_if (leb (due j) end) (left (suc slot) j)) (λ j. only_if (leb (due j) end) (left slot j)) k 1 below
          (rw (le-leb (due k) end by) (let one : taken k slot ≡ 1 = rw (eq-eqb k k refl) in omega (arith, take_one slot k below)))
          (λ j h other. let none : taken j slot ≡ 0 = rw (ne_eqb k j (λ e. other (sym e))) in
          let same : left slot j ≡ left (suc slot) j = omega (arith, take_one slot j h) in rw same)

      -- the cycles left of the jobs due by an end are at most the slots up to it
      still_fits : (end slot : ℕ) → due_by end slot ≤ end - slot
      unfolding due_by left
      still_fits end zero = let all : (j : ℕ) → leb 0 (first j) ≡ true = λ j. le-leb 0 (first j) (omega arith) in simp all at (fits 0 end)
      still_fits end (suc slot) = go (lt_or_le (chosen slot) n) (lt_or_le end (due (chosen slot))) (still_fits end slot)
        where
          go : (chosen slot < n) ⊎ (n ≤ chosen slot) → (end < due (chosen slot)) ⊎ (due (chosen slot) ≤ end) → due_by end slot ≤ end - slot
              → due_by end (suc slot) ≤ end - suc slot
          go (inr idles) when before = none_due slot end (λ runs. absurd (omega arith))
          go (inl runs) (inl later) before = none_due slot end (λ h. later)
          go (inl runs) (inr by) before = omega (arith, one_due slot end runs by)

      left_fits : (slot j : ℕ) → j < n → left slot j ≤ due j - slot
      unfolding due_by
      left_fits slot j below =
          omega (
            arith,
            still_fits (due j) slot,
            rw (le-leb (due j) (due j) (omega arith)) at (sum_term n (λ i. only_if (leb (due i) (due j)) (left slot i)) j below),
          )

      -- a job runs from its first slot on, and before it is due
      pub in_time : (slot j : ℕ) → j < n → chosen slot ≡ j → (first j ≤ slot) × (slot < due j)
      in_time slot j below runs =
          let (released, some) = rw runs at (choice slot).ready below in
          (released, omega (arith, left_fits slot j below))

      -- and gets its cycles
      pub all-taken : (j : ℕ) → j < n → sum (due j) (taken j) ≡ cycles j
      all-taken j below = omega (arith, taken_and_left (due j) j below, left_fits (due j) j below)
