-- Laws of the jobs of a set that are due by a bound, where each interval's set has the jobs that are open there.
-- Assumes nothing.
use mathlib.Core.Path.{◌≡◌, sym, ◌∙◌}
use mathlib.Core.Bool.{Bool, true, false, not, ◌&&◌, cond}
use mathlib.Core.Logic.{◌⊎◌, inl, inr}
use mathlib.Core.List.{List}
use Prim.Native.Nat.{ℕ, ◌<◌, ◌≤◌}
use native.Mathlib.Omega.{arith}
use lib.Dec.{ltb}
use borrow.Author.Tests.{lt-ltb, le-ltb, not-true}
use Rattle.model.specs.Limits.{max_jobs}
use Rattle.model.proofs.Numbers.{lt_or_le, true_or_false, true≢false, both_true}
use Rattle.model.proofs.Search.{first_below_law}
use Rattle.model.proofs.Sum.{sum_mono}
use Rattle.model.proofs.SumMore.{only_if_mono}
use Rattle.job_sets.specs.declared.JobSet.{JobSet}
use Rattle.job_sets.specs.JobSets.{is_member, member_count, least_member, in_first_only}
use Rattle.job_sets.specs.IntervalSets.{set_in}
use Rattle.job_sets.proofs.JobSets.{less_has}
use Rattle.workloads.specs.Workloads.{Workload}
use Rattle.workloads.specs.Placement.{SoundProblem, Open}
use Rattle.workloads.specs.Arrays.{numbers_in, problem_in}
use Rattle.refilling.specs.RefillTables.{OpenSets}

-- the members of a set that are not in that of a bound's interval
abbrev pub due_set : (sets : List ℕ) → (intervals : ℕ) → JobSet → (bound : ℕ) → JobSet
due_set sets intervals set bound = cond (ltb bound intervals) (in_first_only set (set_in sets bound)) set

-- they are members of the set
pub due_within : (sets : List ℕ) (intervals : ℕ) (set : JobSet) (bound q : ℕ) → is_member (due_set sets intervals set bound) q ≡ true → is_member set q ≡ true
due_within sets intervals set bound q = go (ltb bound intervals)
  where
    go : (t : Bool) → is_member (cond t (in_first_only set (set_in sets bound)) set) q ≡ true → is_member set q ≡ true
    go true has = (both_true (is_member set q) _ (sym (less_has set (set_in sets bound) q) ∙ has)).0
    go false has = has

-- and no more of them
pub due_fewer : (sets : List ℕ) (intervals : ℕ) (set : JobSet) (bound : ℕ) → member_count (due_set sets intervals set bound) ≤ member_count set
due_fewer sets intervals set bound = sum_mono max_jobs (λ q below. only_if_mono _ _ 1 (due_within sets intervals set bound q))

module _ {work : Workload} (sound : SoundProblem (problem_in work)) {sets : List ℕ} (opens : OpenSets work sets) {i bound : ℕ} (late : i < bound)
    (set : JobSet) {q : ℕ} (below : q < work.jobs) (is_open_true : Open (problem_in work) i q) where
  -- a member that is open before the bound is due by it
  pub due_by_bound : is_member (due_set sets work.intervals set bound) q ≡ true → numbers_in work.last q ≤ bound
  due_by_bound has = go (lt_or_le bound (numbers_in work.last q)) (lt_or_le bound work.intervals)
    where
      go : (bound < numbers_in work.last q) ⊎ (numbers_in work.last q ≤ bound) → (bound < work.intervals) ⊎ (work.intervals ≤ bound)
          → numbers_in work.last q ≤ bound
      go (inr due) order = due
      go (inl after) (inr past) = omega (arith, sound.inside q below)
      go (inl after) (inl inside) =
          let there : is_member (set_in sets bound) q ≡ true = (opens.open_are bound q inside).1 (below, record { from = omega (arith, is_open_true.from); to = after }) in
          let kept : (is_member set q && not (is_member (set_in sets bound) q)) ≡ true = sym (less_has set (set_in sets bound) q) ∙ rw (lt-ltb bound work.intervals inside) at has in
          absurd (true≢false (sym there ∙ not-true (is_member (set_in sets bound) q) (both_true (is_member set q) (not (is_member (set_in sets bound) q)) kept).1))

  -- another that is open before the bound is no member of the set, or due after the bound
  pub due-after : is_member (due_set sets work.intervals set bound) q ≡ false → (is_member set q ≡ false) ⊎ (bound < numbers_in work.last q)
  due-after hasn't = go (lt_or_le bound work.intervals) (true_or_false (is_member set q))
    where
      go : (bound < work.intervals) ⊎ (work.intervals ≤ bound) → (is_member set q ≡ true) ⊎ (is_member set q ≡ false)
          → (is_member set q ≡ false) ⊎ (bound < numbers_in work.last q)
      go order (inr none) = inl none
      go (inr past) (inl has) = inl (rw (le-ltb bound work.intervals past) at hasn't)
      go (inl inside) (inl has) = inr (there (true_or_false (is_member (set_in sets bound) q)))
        where
          gone : (true && not (is_member (set_in sets bound) q)) ≡ false
          gone = rw has at (sym (less_has set (set_in sets bound) q) ∙ rw (lt-ltb bound work.intervals inside) at hasn't)

          there : (is_member (set_in sets bound) q ≡ true) ⊎ (is_member (set_in sets bound) q ≡ false) → bound < numbers_in work.last q
          there (inl has) = ((opens.open_are bound q inside).0 has).1.to
          there (inr none) = absurd (true≢false (rw none at gone))

-- no member is below the least
pub least_before : (set : JobSet) (q : ℕ) → q < least_member set → is_member set q ≡ false
least_before set q less = (first_below_law max_jobs (is_member set)).before q less
