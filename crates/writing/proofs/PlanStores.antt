-- Laws of a plan that is written step by step: no step, one step and one list of steps after another; and the whole
-- plan, with its counts before the steps.
-- Assumes nothing.
use mathlib.Core.Path.{◌≡◌, refl}
use mathlib.Core.List.{List, [], ◌∷◌, ◌++◌, append_assoc, append-nil}
use Prim.Native.Nat.{ℕ, ◌+◌, ◌*◌, ◌<◌, ◌≤◌}
use native.Mathlib.Omega.{arith}
use lib.ListN.{length, drop, length-append}
use lib.Seq.{sets, length-sets}
use Rattle.model.specs.Bytes.{bytes16, bytes32}
use Rattle.model.specs.Entries.{encode_each, joined}
use Rattle.model.specs.Steps.{Step}
use Rattle.model.proofs.Bytes.{length_bytes_of}
use Rattle.writing.specs.PlanBytes.{cell_bytes, cycle_bytes, encode_plan, with_steps}
use Rattle.writing.proofs.Stores.{sets_after, sets_two, sets_front}
use Rattle.writing.proofs.Encoded.{encode_each_append}
use Rattle.model.proofs.Joined.{joined_next, joined_longer, joined_shorter}
use Rattle.writing.proofs.CellOrder.{cell_of_step}
use Rattle.writing.proofs.EncodedPlan.{length_cells, length_cycles, length_plan}

module _ (count first : ℕ) where
  with_none : (plan : List ℕ) → plan ≡ with_steps count first [] plan
  unfolding with_steps encode_each
  with_none plan = refl

  pub with_one : (step : Step) (plan : List ℕ)
      → sets (sets plan (4 + 2 * first) (bytes16 (cell_of_step step))) (4 + 2 * count + 4 * first) (bytes32 step.cycles)
      ≡ with_steps count first (step ∷ []) plan
  unfolding with_steps encode_each
  with_one step plan = simp append-nil

  length_with : (steps : List Step) (plan : List ℕ) → length (with_steps count first steps plan) ≡ length plan
  unfolding with_steps
  length_with steps plan = rw (length-sets, length-sets)

  -- some steps, and after them some more
  with_append : (a b : List Step) (plan : List ℕ) → first + (length a + length b) ≤ count
      → with_steps count (first + length a) b (with_steps count first a plan) ≡ with_steps count first (a ++ b) plan
  unfolding with_steps
  with_append a b plan room =
      let cells : 4 + 2 * (first + length a) ≡ 4 + 2 * first + length (cell_bytes a) = omega (arith, length_cells a) in
      let cycles : 4 + 2 * count + 4 * (first + length a) ≡ 4 + 2 * count + 4 * first + length (cycle_bytes a) = omega (arith, length_cycles a) in
      rw (cells, cycles, encode_each_append, encode_each_append)
      (sets_two plan (4 + 2 * first) (4 + 2 * count + 4 * first) (cell_bytes a) (cell_bytes b) (cycle_bytes a) (cycle_bytes b)
      (omega (arith, length_cells a, length_cells b)))

-- the counts, and after them the steps
pub whole_plan : (intervals count : ℕ) (steps : List Step) → count ≡ length steps
    → (before first second after : List ℕ) → 4 + 6 * count ≤ length before
    → first ≡ sets before 0 (bytes16 intervals) → second ≡ sets first 2 (bytes16 count) → after ≡ with_steps count 0 steps second
    → after ≡ encode_plan intervals steps ++ drop (4 + 6 * count) before
unfolding with_steps encode_plan
whole_plan intervals count steps counted before first second after room one two three =
    let counts : List ℕ = bytes16 intervals ++ bytes16 (length steps) in
    let cells : List ℕ = counts ++ cell_bytes steps in
    let long : length counts ≡ 4 = simp (length-append, length_bytes_of) in
    let longer : length cells ≡ 4 + 2 * length steps = simp (length-append, length_bytes_of) (omega (arith, length_cells steps)) in
    rw (
      three,
      two,
      one,
      counted,
      sets_after before 0 2 (bytes16 intervals) (bytes16 (length steps)) (omega (arith, length_bytes_of 2 intervals)),
      sets_after before 0 4 counts (cell_bytes steps) (omega arith),
      sets_after before 0 (4 + 2 * length steps + 4 * 0) cells (cycle_bytes steps) (omega arith),
      append_assoc counts (cell_bytes steps) (cycle_bytes steps),
      append_assoc (bytes16 intervals) (bytes16 (length steps)) (cell_bytes steps ++ cycle_bytes steps),
    )
    (sets_front before (encode_plan intervals steps) (4 + 6 * length steps) (length_plan intervals steps) (omega arith))

-- lists of steps that are written one after another: the number of the step after the first n lists, and the bytes then
pub record StepsPut (count first : ℕ) (lists : ℕ → List Step) (before : List ℕ) (n next : ℕ) (plan : List ℕ) : Type 0 where
  pub next_is : next ≡ first + length (joined n lists)
  pub plan_is : plan ≡ with_steps count first (joined n lists) before

module _ (count first : ℕ) (lists : ℕ → List Step) (before : List ℕ) where
  pub put_none : StepsPut count first lists before 0 first before
  unfolding joined
  put_none = record { next_is = omega arith; plan_is = with_none count first before }

  module _ (n next : ℕ) (plan : List ℕ) (put : StepsPut count first lists before n next plan) where
    pub length_put : length plan ≡ length before
    length_put = rw put.plan_is (length_with count first (joined n lists) before)

    -- after the last list
    pub put_whole : (total : ℕ) → n ≤ total → total ≤ n → StepsPut count first lists before total next plan
    put_whole total low high = let e : total ≡ n = omega arith in rw e put

    -- past lists of no step
    pub put_past : (m : ℕ) → n ≤ m → ((k : ℕ) → n ≤ k → k < m → lists k ≡ []) → StepsPut count first lists before m next plan
    put_past m low none =
        let same : joined m lists ≡ joined n lists = joined_shorter lists n m low none in
        record { next_is = rw same put.next_is; plan_is = rw same put.plan_is }

    module _ (total : ℕ) (more : n < total) (room : first + length (joined total lists) ≤ count) where
      -- the next list has room
      pub put_room : next + length (lists n) ≤ count
      put_room =
          let longer : length (joined (n + 1) lists) ≤ length (joined total lists) = joined_longer lists (n + 1) total (omega arith) in
          let both = length-append (joined n lists) (lists n) in
          omega (arith, put.next_is, rw joined_next at longer)

      pub put_next : (next-after : ℕ) (after : List ℕ) → next-after ≡ next + length (lists n) → after ≡ with_steps count next (lists n) plan
          → StepsPut count first lists before (n + 1) next-after after
      put_next next-after after counted written =
          let both = length-append (joined n lists) (lists n) in
          record {
            next_is = rw (joined_next n lists) (omega (arith, put.next_is));
            plan_is =
                rw (written, put.plan_is, put.next_is, joined_next n lists)
                (with_append count first (joined n lists) (lists n) before (omega (arith, put.next_is, put_room)));
          }
