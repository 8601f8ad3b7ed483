-- Laws of the search for a least common multiple: along the multiples of one number, and from period to period.
-- Assumes nothing.
use mathlib.Core.Path.{◌≡◌, sym}
use mathlib.Core.Logic.{◌⊎◌, inl, inr}
use mathlib.Core.List.{List}
use Prim.Native.Nat.{ℕ, ◌+◌, ◌%◌, ◌<◌, ◌≤◌, ◌∣◌}
use native.Mathlib.Nat.{eq-or-lt_of_le, dvd_refl, dvd-add, dvd_trans, dvd_of_mod-eq-zero, mod-eq-zero_of_dvd, le_of_dvd}
use native.Mathlib.Omega.{arith}
use lib.ListN.{length}
use Rattle.std.specs.Prelude.{Option, Some, None}
use Rattle.model.proofs.Divides.{multiples_apart}
use Rattle.tasks.specs.declared.Task.{Task}
use Rattle.tasks.specs.Tasks.{task_of, ValidTasks}
use Rattle.tasks.specs.Multiples.{max_multiple, multiple_of}
use Rattle.tasks.proofs.Multiples.{least_divides, least_is_multiple, multiple_is_least}
use Rattle.task_tables.specs.FoundMultiples.{LeastCommon, CommonFound, MultipleFound}

-- A multiple of `step` below which none is divided by `divisor`.
pub record Candidate (step divisor multiple : ℕ) : Type 0 where
  pub high : step ≤ multiple
  pub divided : step ∣ multiple
  pub lowest : (n : ℕ) → 0 < n → step ∣ n → divisor ∣ n → multiple ≤ n

module _ (step divisor : ℕ) where
  pub first_candidate : Candidate step divisor step
  first_candidate = record { high = omega arith; divided = dvd_refl step; lowest = λ n some one two. le_of_dvd some one }

  pub next_candidate : (multiple : ℕ) → Candidate step divisor multiple → (multiple % divisor ≡ 0 → ⊥) → Candidate step divisor (multiple + step)
  next_candidate multiple h fails =
      record { high = omega arith; divided = dvd-add step h.divided (dvd_refl step); lowest = lowest }
    where
      lowest : (n : ℕ) → 0 < n → step ∣ n → divisor ∣ n → multiple + step ≤ n
      lowest n some one two = go (eq-or-lt_of_le (h.lowest n some one two))
        where
          go : (multiple ≡ n) ⊎ (multiple < n) → multiple + step ≤ n
          go (inl same) = absurd (fails (rw same (mod-eq-zero_of_dvd divisor two)))
          go (inr later) = multiples_apart step multiple n h.divided one later

  -- the search ends at a common multiple, or above the limit
  pub candidate_found : 0 < step → (multiple : ℕ) → Candidate step divisor multiple → multiple ≤ max_multiple → multiple % divisor ≡ 0
      → LeastCommon step divisor multiple
  candidate_found some multiple h small divided =
      record {
        positive = omega (arith, h.high);
        small = small;
        lowest = h.lowest;
        one_divides = h.divided;
        other_divides = dvd_of_mod-eq-zero divisor divided;
      }

  pub candidate_above : (multiple : ℕ) → Candidate step divisor multiple → max_multiple < multiple → CommonFound step divisor None
  candidate_above multiple h above = λ n some one two. omega (arith, h.lowest n some one two)

  pub common_turned : (found : Option ℕ) → CommonFound step divisor found → CommonFound divisor step found
  common_turned None h = λ n some one two. h n some two one
  common_turned (Some found) h =
      record {
        positive = h.positive;
        small = h.small;
        lowest = λ n some one two. h.lowest n some two one;
        one_divides = h.other_divides;
        other_divides = h.one_divides;
      }

-- The least common multiple of the first periods, which is within the limit.
pub record MultipleSoFar (tasks : List Task) (count multiple : ℕ) : Type 0 where
  pub positive : 0 < multiple
  pub small : multiple ≤ max_multiple
  pub lowest : (n : ℕ) → 0 < n → ((i : ℕ) → i < count → (task_of tasks i).period ∣ n) → multiple ≤ n
  pub common : (i : ℕ) → i < count → (task_of tasks i).period ∣ multiple

module _ (tasks : List Task) where
  pub multiple_none : MultipleSoFar tasks 0 1
  multiple_none = record { positive = omega arith; small = omega arith; lowest = λ n some all. some; common = λ i below. absurd (omega arith) }

  module _ (count multiple : ℕ) (h : MultipleSoFar tasks count multiple) where
    divides : (n : ℕ) → ((i : ℕ) → i < count → (task_of tasks i).period ∣ n) → multiple ∣ n
    divides n all = least_divides count (λ i. (task_of tasks i).period) multiple h.positive h.common h.lowest n all

    pub multiple_next : (found : ℕ) → LeastCommon multiple (task_of tasks count).period found → MultipleSoFar tasks (count + 1) found
    multiple_next found next = record { positive = next.positive; small = next.small; lowest = lowest; common = common }
      where
        lowest : (n : ℕ) → 0 < n → ((i : ℕ) → i < count + 1 → (task_of tasks i).period ∣ n) → found ≤ n
        lowest n some all = next.lowest n some (divides n (λ i below. all i (omega arith))) (all count (omega arith))

        common : (i : ℕ) → i < count + 1 → (task_of tasks i).period ∣ found
        common i below = go (eq-or-lt_of_le (let h : i ≤ count = omega arith in h))
          where
            go : (i ≡ count) ⊎ (i < count) → (task_of tasks i).period ∣ found
            go (inl last) = rw last next.other_divides
            go (inr earlier) = dvd_trans (task_of tasks i).period (h.common i earlier) next.one_divides

    -- with one period more it is above the limit, and so is that of all
    pub multiple_above : ValidTasks tasks → count < length tasks → CommonFound multiple (task_of tasks count).period None
        → MultipleFound tasks None
    multiple_above valid below above =
        let least = multiple_is_least tasks valid in
        above (multiple_of tasks) least.positive (divides (multiple_of tasks) (λ i low. least.common i (omega arith))) (least.common count below)

  -- what was found of all periods
  pub multiple_found : ValidTasks tasks → (multiple : ℕ) → MultipleSoFar tasks (length tasks) multiple → MultipleFound tasks (Some multiple)
  multiple_found valid multiple h = (h.small, sym (least_is_multiple tasks periods multiple h.positive h.common h.lowest))
    where
      periods : (i : ℕ) → i < length tasks → 0 < (task_of tasks i).period
      periods i below = omega (arith, valid.some_deadline i below, valid.within_period i below)
