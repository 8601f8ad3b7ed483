-- Laws of raising the numbers of a set's members one after another.
-- Assumes nothing.
use mathlib.Core.Path.{◌≡◌, refl, sym, ◌∙◌}
use mathlib.Core.Bool.{true, false}
use mathlib.Core.List.{List}
use Prim.Native.Nat.{ℕ, ◌<◌, max}
use native.Mathlib.Decide.{ℕ_discrete}
use native.Mathlib.Omega.{arith}
use lib.ListN.{length, set, length-set}
use lib.Seq.{get_or-set_same, get_or-set_other}
use Rattle.model.specs.Limits.{max_jobs}
use Rattle.model.proofs.Numbers.{true≢false}
use Rattle.job_sets.specs.declared.JobSet.{JobSet}
use Rattle.job_sets.specs.JobSets.{is_member, least_member, is_empty, without_job}
use Rattle.job_sets.proofs.JobSets.{empty_has, least_has, without_here, without_other}
use Rattle.workloads.specs.Arrays.{numbers_in}
use Rattle.prices.specs.RisingPrices.{MembersRaised}

-- the numbers of the members that are not in the rest are raised, and all others are as they were
pub record RaisedSoFar (all rest : JobSet) (price : ℕ) (before after : List ℕ) : Type 0 where
  pub size : length after ≡ max_jobs
  pub within : (j : ℕ) → is_member rest j ≡ true → is_member all j ≡ true
  pub done : (j : ℕ) → is_member all j ≡ true → is_member rest j ≡ false → numbers_in after j ≡ max (numbers_in before j) price
  pub waiting : (j : ℕ) → is_member rest j ≡ true → numbers_in after j ≡ numbers_in before j
  pub others : (j : ℕ) → is_member all j ≡ false → numbers_in after j ≡ numbers_in before j

pub raises_start : {all : JobSet} {price : ℕ} {before : List ℕ} → length before ≡ max_jobs → RaisedSoFar all all price before before
raises_start size =
    record {
      size = size;
      within = λ j has. has;
      done = λ j has hasn't. absurd (true≢false (sym has ∙ hasn't));
      waiting = λ j has. refl;
      others = λ j hasn't. refl;
    }

-- one member
pub raises_next : {all rest : JobSet} {price job : ℕ} {before after next : List ℕ} → RaisedSoFar all rest price before after → is_member rest job ≡ true
    → length next ≡ max_jobs → numbers_in next job ≡ max (numbers_in after job) price → ((j : ℕ) → (j ≡ job → ⊥) → numbers_in next j ≡ numbers_in after j)
    → RaisedSoFar all (without_job rest job) price before next
raises_next {all} {rest} {price} {job} {before} {after} {next} so_far has size here elsewhere =
    record {
      size = size;
      within = λ j left. so_far.within j (sym (without_other rest job j (other j left)) ∙ left);
      done = λ j member gone. done j member gone (ℕ_discrete j job);
      waiting = λ j left. elsewhere j (other j left) ∙ so_far.waiting j (sym (without_other rest job j (other j left)) ∙ left);
      others = λ j hasn't. elsewhere j (not_job j hasn't) ∙ so_far.others j hasn't;
    }
  where
    other : (j : ℕ) → is_member (without_job rest job) j ≡ true → j ≡ job → ⊥
    other j left e = true≢false (sym (rw e at left) ∙ without_here rest job)

    not_job : (j : ℕ) → is_member all j ≡ false → j ≡ job → ⊥
    not_job j hasn't e = true≢false (sym (so_far.within job has) ∙ rw e at hasn't)

    done : (j : ℕ) → is_member all j ≡ true → is_member (without_job rest job) j ≡ false → Dec (j ≡ job) → numbers_in next j ≡ max (numbers_in before j) price
    done j member gone (yes e) = rw e (here ∙ rw (so_far.waiting job has))
    done j member gone (no apart) = elsewhere j apart ∙ so_far.done j member (sym (without_other rest job j apart) ∙ gone)

-- no member is left
pub raises_end : {all rest : JobSet} {price : ℕ} {before after : List ℕ} → RaisedSoFar all rest price before after → is_empty rest ≡ true
    → MembersRaised all price before after
raises_end {rest = rest} so_far empty =
    record { size = so_far.size; members = λ j has. so_far.done j has (empty_has rest empty j); others = so_far.others }

-- a member's number becomes the larger of it and the price
pub raises_store : {all rest : JobSet} {price job : ℕ} {before after : List ℕ} → RaisedSoFar all rest price before after → is_member rest job ≡ true
    → job < max_jobs → RaisedSoFar all (without_job rest job) price before (set after job (max (numbers_in after job) price))
raises_store {price = price} {job} {after = after} so_far has small =
    raises_next so_far has (rw length-set so_far.size)
    (get_or-set_same after job (max (numbers_in after job) price) 0 (omega (arith, so_far.size)))
    (λ j other. get_or-set_other after job j (max (numbers_in after job) price) 0 other)

-- the least of a set that is not empty is a member
pub least-member : (rest : JobSet) {job : ℕ} → job ≡ least_member rest → is_empty rest ≡ false → (job < max_jobs) × (is_member rest job ≡ true)
least-member rest is_least some = rw is_least (least_has rest some)
