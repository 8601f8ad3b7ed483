-- Laws of taking shares out of the table: one job's, one interval's, and all.
-- Assumes nothing.
use mathlib.Core.Path.{◌≡◌, refl, sym, ◌∙◌}
use mathlib.Core.Bool.{true, false, not}
use mathlib.Core.Logic.{◌⊎◌, inl, inr}
use mathlib.Core.List.{List}
use Prim.Native.Nat.{ℕ, ◌+◌, ◌*◌, ◌<◌, ◌≤◌}
use native.Mathlib.Nat.{mul-le-mul_right}
use native.Mathlib.Decide.{ℕ_discrete}
use native.Mathlib.Omega.{arith}
use lib.Dec.{eqb}
use lib.ListN.{length, set}
use lib.Seq.{get_or-set_same, get_or-set_other}
use borrow.Author.Tests.{ltb-false}
use Rattle.model.specs.Plans.{shares_in}
use Rattle.model.proofs.Numbers.{lt_or_le, true_or_false, true≢false, both_true}
use Rattle.job_sets.specs.declared.JobSet.{JobSet}
use Rattle.job_sets.specs.JobSets.{is_member, is_empty, without_job}
use Rattle.job_sets.specs.IntervalSets.{set_in}
use Rattle.job_sets.proofs.JobSets.{without_has, without_other, empty_has}
use Rattle.workloads.specs.Arrays.{numbers_in, KeptPast}
use Rattle.workloads.proofs.SharesTable.{place_interval, place_job, kept_refl, kept_trans, kept_set}
use Rattle.refilling.specs.Clearing.{HoldsShares, RowCleared}

-- In one interval the shares of a set's members are 0 but for those of `rest`, and all else stays.
pub record RowClearing (jobs interval : ℕ) (members rest : JobSet) (before after : List ℕ) : Type 0 where
  pub among : (j : ℕ) → is_member rest j ≡ true → is_member members j ≡ true
  pub gone : (j : ℕ) → is_member members j ≡ true → is_member rest j ≡ false → numbers_in after (interval * jobs + j) ≡ 0
  pub others : (k : ℕ) → ((j : ℕ) → is_member members j ≡ true → k ≡ interval * jobs + j → ⊥) → numbers_in after k ≡ numbers_in before k
  pub kept : (count : ℕ) → interval * jobs + jobs ≤ count → KeptPast count before after

-- before the first member
pub row_start : (jobs interval : ℕ) (members : JobSet) (table : List ℕ) → RowClearing jobs interval members members table table
row_start jobs interval members table =
    record {
      among = λ j has. has;
      gone = λ j has lacks. absurd (true≢false (sym has ∙ lacks));
      others = λ k apart. refl;
      kept = λ count inside. kept_refl count table;
    }

module _ {jobs interval : ℕ} {members rest : JobSet} {before after : List ℕ} (so_far : RowClearing jobs interval members rest before after) where
  -- the table is as long as it was
  pub row_length : length after ≡ length before
  row_length = (so_far.kept (interval * jobs + jobs) (omega arith)).same_length

  -- one member more
  pub row_next : (job : ℕ) → is_member rest job ≡ true → job < jobs → interval * jobs + jobs ≤ length before
      → RowClearing jobs interval members (without_job rest job) before (set after (interval * jobs + job) 0)
  row_next job has below room =
      record {
        among = λ j in_rest. so_far.among j (both_true (not (eqb j job)) (is_member rest j) (sym (without_has rest job j) ∙ in_rest)).1;
        gone = λ j member lacks. go j (ℕ_discrete j job) member lacks;
        others = λ k apart. get_or-set_other after (interval * jobs + job) k 0 0 (apart job (so_far.among job has)) ∙ so_far.others k apart;
        kept = λ count inside. kept_set (so_far.kept count inside) (interval * jobs + job) 0 (omega arith);
      }
    where
      go : (j : ℕ) → Dec (j ≡ job) → is_member members j ≡ true → is_member (without_job rest job) j ≡ false
          → numbers_in (set after (interval * jobs + job) 0) (interval * jobs + j) ≡ 0
      go j (yes e) member lacks = rw e (get_or-set_same after (interval * jobs + job) 0 0 (omega (arith, row_length)))
      go j (no other) member lacks =
          get_or-set_other after (interval * jobs + job) (interval * jobs + j) 0 0 (λ e. other (omega arith))
          ∙ so_far.gone j member (sym (without_other rest job j other) ∙ lacks)

  -- past the last member
  pub row_end : is_empty rest ≡ true → RowCleared jobs interval members before after
  row_end none =
      record { gone = λ j member. so_far.gone j member (empty_has rest none j); others = so_far.others; kept = so_far.kept }

-- In the intervals before one no job has a share, and from it on all shares are as they were.
pub record ClearedTo (jobs intervals count : ℕ) (before after : List ℕ) : Type 0 where
  pub kept : KeptPast (intervals * jobs) before after
  pub empty : (i j : ℕ) → i < count → j < jobs → shares_in jobs after i j ≡ 0
  pub same : (i j : ℕ) → count ≤ i → j < jobs → shares_in jobs after i j ≡ shares_in jobs before i j

-- before the first interval
pub cleared_none : (jobs intervals : ℕ) (table : List ℕ) → ClearedTo jobs intervals 0 table table
cleared_none jobs intervals table =
    record { kept = kept_refl (intervals * jobs) table; empty = λ i j before below. absurd (omega arith); same = λ i j from below. refl }

module _ {jobs intervals : ℕ} {before holders : List ℕ} (known : HoldsShares jobs intervals before holders) where
  -- the members of an interval's set are jobs
  pub held_below : (i : ℕ) → i < intervals → (j : ℕ) → is_member (set_in holders i) j ≡ true → j < jobs
  held_below i inside j has = go (lt_or_le j jobs)
    where
      go : (j < jobs) ⊎ (jobs ≤ j) → j < jobs
      go (inl below) = below
      go (inr past) = absurd (true≢false (sym has ∙ known.held_past i j inside past))

  -- an interval's shares lie in the table
  pub row_room : (i : ℕ) → i < intervals → i * jobs + jobs ≤ length before
  row_room i inside = omega (arith, known.room, mul-le-mul_right jobs inside)

  module _ {count : ℕ} {between after : List ℕ} (inside : count < intervals) (so_far : ClearedTo jobs intervals count before between)
      (row : RowCleared jobs count (set_in holders count) between after) where
    -- what another interval has stays
    row_elsewhere : (i j : ℕ) → (i ≡ count → ⊥) → j < jobs → shares_in jobs after i j ≡ shares_in jobs between i j
    row_elsewhere i j other below =
        row.others (i * jobs + j) (λ l has e. other (place_interval jobs i j count l below (held_below count inside l has) e))

    -- what the interval itself has is gone: the set has each job with a share there
    row_here : (j : ℕ) → j < jobs → shares_in jobs after count j ≡ 0
    row_here j below = go (true_or_false (is_member (set_in holders count) j))
      where
        go : (is_member (set_in holders count) j ≡ true) ⊎ (is_member (set_in holders count) j ≡ false) → shares_in jobs after count j ≡ 0
        go (inl has) = row.gone j has
        go (inr lacks) =
            let no_share = ltb-false 0 (shares_in jobs before count j) (sym (known.held count j inside below) ∙ lacks) in
            row.others (count * jobs + j)
            (λ l has e. true≢false (sym has ∙ rw (place_job jobs count j count l below (held_below count inside l has) e) at lacks))
            ∙ so_far.same count j (omega arith) below ∙ omega (arith, no_share)

    -- one interval more
    pub cleared_next : ClearedTo jobs intervals (count + 1) before after
    cleared_next =
        record {
          kept = kept_trans so_far.kept (row.kept (intervals * jobs) (omega (arith, mul-le-mul_right jobs inside)));
          empty = λ i j less below. go i j (ℕ_discrete i count) less below;
          same = λ i j from below. row_elsewhere i j (λ e. omega arith) below ∙ so_far.same i j (omega arith) below;
        }
      where
        go : (i j : ℕ) → Dec (i ≡ count) → i < count + 1 → j < jobs → shares_in jobs after i j ≡ 0
        go i j (yes e) less below = rw e (row_here j below)
        go i j (no other) less below = row_elsewhere i j other below ∙ so_far.empty i j (omega (arith, other)) below
