-- Laws of one job more in the sets of a range of intervals: one set after another, as the code fills them, and the members
-- of the sets then.
-- Assumes nothing.
use mathlib.Core.Path.{◌≡◌, refl, ◌∙◌, ap}
use mathlib.Core.Bool.{◌&&◌, ◌||◌, and-false}
use mathlib.Core.Logic.{◌⊎◌, inl, inr}
use mathlib.Core.List.{List}
use Prim.Native.Nat.{ℕ, ◌+◌, ◌<◌, ◌≤◌, max}
use native.Mathlib.Decide.{ℕ_discrete}
use native.Mathlib.Omega.{arith}
use lib.ListN.{length}
use lib.Dec.{eqb}
use borrow.Author.Tests.{lt-ltb, le-ltb, le-leb, lt-leb}
use Rattle.model.specs.Limits.{max_jobs}
use Rattle.model.proofs.Numbers.{lt_or_le}
use Rattle.job_sets.specs.declared.JobSet.{JobSet}
use Rattle.job_sets.specs.JobSets.{is_member, with_job}
use Rattle.job_sets.specs.IntervalSets.{set_words, set_in, in_range, Added, AddedRange}
use Rattle.job_sets.proofs.JobSets.{with_has}

module _ {sets : List ℕ} {first job : ℕ} where
  pub range_none : length sets ≡ set_words → AddedRange sets sets first first job
  range_none size = record { size = size; here = λ i from below. absurd (omega arith); elsewhere = λ i out. refl }

  -- the set of the next interval gets the job, the others stay
  pub range_more : {next after : List ℕ} {i : ℕ} → AddedRange sets next first i job → Added next after i job → first ≤ i
      → AddedRange sets after first (i + 1) job
  range_more {next} {after} {i} filled added from = record {
    size = added.size;
    here = λ k past below. inside k past below (ℕ_discrete k i);
    elsewhere = λ k out. added.elsewhere k (λ e. out (omega arith) (omega arith))
        ∙ filled.elsewhere k (λ past below. out past (omega arith));
  }
    where
      inside : (k : ℕ) → first ≤ k → k < i + 1 → Dec (k ≡ i) → set_in after k ≡ with_job (set_in sets k) job
      inside k past below (yes here) =
          rw here (added.here ∙ ap (λ (set : JobSet). with_job set job) (filled.elsewhere i (λ past below. omega arith)))
      inside k past below (no other) = added.elsewhere k other ∙ filled.here k past (omega arith)

  -- a range that was filled to its end; it may be empty
  pub range_whole : {next : List ℕ} {i end : ℕ} → AddedRange sets next first i job → end ≤ i → i ≤ max first end
      → AddedRange sets next first end job
  range_whole filled met last = record {
    size = filled.size;
    here = λ k past below. filled.here k past (omega arith);
    elsewhere = λ k out. filled.elsewhere k (λ past below. out past (omega arith));
  }

  -- the members of the sets then
  pub range_has : {after : List ℕ} {end : ℕ} → AddedRange sets after first end job → job < max_jobs → (i j : ℕ)
      → is_member (set_in after i) j ≡ ((in_range first end i && eqb j job) || is_member (set_in sets i) j)
  range_has {after} {end} added small i j = go (lt_or_le i first) (lt_or_le i end)
    where
      go : (i < first) ⊎ (first ≤ i) → (i < end) ⊎ (end ≤ i)
          → is_member (set_in after i) j ≡ ((in_range first end i && eqb j job) || is_member (set_in sets i) j)
      go (inl before) final = rw (lt-leb first i before, added.elsewhere i (λ from below. omega arith))
      go (inr from) (inl below) =
          rw (le-leb first i from, lt-ltb i end below, added.here i from below) (with_has (set_in sets i) job j small)
      go (inr from) (inr past) = rw (le-ltb i end past, and-false, added.elsewhere i (λ from below. omega arith))
