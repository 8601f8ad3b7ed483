-- Laws of what the sets of the jobs with a share say of the shares.
-- Assumes nothing.
use mathlib.Core.Path.{◌≡◌, refl, sym, ◌∙◌}
use mathlib.Core.Bool.{Bool, true, false}
use mathlib.Core.Logic.{◌⊎◌, inl, inr}
use mathlib.Core.List.{List}
use Prim.Native.Nat.{ℕ, ◌+◌, ◌<◌, ◌≤◌}
use native.Mathlib.Omega.{arith}
use lib.ListN.{replicate, length-replicate}
use borrow.Author.Tests.{lt-ltb, ltb-true}
use Rattle.model.specs.Limits.{max_jobs}
use Rattle.model.specs.Sum.{only_if}
use Rattle.model.specs.Plans.{Shares}
use Rattle.model.proofs.Numbers.{lt_or_le, true_or_false, true≢false}
use Rattle.job_sets.specs.JobSets.{is_member}
use Rattle.job_sets.specs.IntervalSets.{set_in}
use Rattle.workloads.specs.Workloads.{Workload}
use Rattle.workloads.specs.Placement.{Problem}
use Rattle.workloads.specs.Arrays.{numbers_in, Holding}
use Rattle.workloads.proofs.StoredNumbers.{zeros}
use Rattle.prices.specs.RisingPrices.{held_shares, HighestPrice, MembersRaised, HighestPrices, CanRiseBy, CanRaise}
use Rattle.prices.proofs.PriceRanges.{highest_none, highest_pass, highest_more}

-- a member has a share, and who has one is a member
pub held_some : (holders : List ℕ) (i j : ℕ) → is_member (set_in holders i) j ≡ true → 0 < held_shares holders i j
unfolding held_shares
held_some holders i j has = rw has (omega arith)

pub held_member : (holders : List ℕ) (i j : ℕ) → 0 < held_shares holders i j → is_member (set_in holders i) j ≡ true
unfolding held_shares
held_member holders i j = go (is_member (set_in holders i) j)
  where
    go : (t : Bool) → 0 < only_if t 1 → t ≡ true
    go true some = refl
    go false some = absurd (omega arith)

-- the jobs with a share are those of the sets, and so is the highest price at which a job has one
module _ {p : Problem} {shares : Shares} {holders : List ℕ} (holding : Holding p shares holders) {j : ℕ} (below : j < p.jobs) where
  share-of : (i : ℕ) → i < p.intervals → 0 < held_shares holders i j → 0 < shares i j
  share-of i inside some = ltb-true 0 (shares i j) (sym (holding.held i j inside below) ∙ held_member holders i j some)

  held_of : (i : ℕ) → i < p.intervals → 0 < shares i j → 0 < held_shares holders i j
  held_of i inside some = held_some holders i j (holding.held i j inside below ∙ lt-ltb 0 (shares i j) some)

  pub held_highest : {prices : ℕ → ℕ} {price : ℕ} → HighestPrice (held_shares holders) prices j 0 p.intervals price → HighestPrice shares prices j 0 p.intervals price
  held_highest highest =
      record {
        most = λ i from inside some. highest.most i from inside (held_of i inside some);
        held = λ more.
            let (i, from, inside, some, is) = highest.held more in
            (i, from, inside, share-of i inside some, is);
      }

-- before the first interval
pub highest_start : {holders prices highest : List ℕ} → highest ≡ replicate max_jobs 0 → HighestPrices holders prices 0 highest
highest_start is-highest =
    record {
      size = rw is-highest (length-replicate {A = ℕ} max_jobs 0);
      each = λ j below. rw (is-highest, zeros max_jobs j) highest_none;
    }

-- the highest prices up to one interval more: those of the members grow to its price
pub highest_next : {holders prices highest after : List ℕ} {i : ℕ} → HighestPrices holders prices i highest
    → MembersRaised (set_in holders i) (numbers_in prices i) highest after → HighestPrices holders prices (i + 1) after
highest_next {holders} {prices} {highest} {after} {i} before raised =
    record { size = raised.size; each = λ j below. go j (before.each j below) (true_or_false (is_member (set_in holders i) j)) (lt_or_le (numbers_in highest j) (numbers_in prices i)) }
  where
    go : (j : ℕ) → HighestPrice (held_shares holders) (numbers_in prices) j 0 i (numbers_in highest j)
        → (is_member (set_in holders i) j ≡ true) ⊎ (is_member (set_in holders i) j ≡ false)
        → (numbers_in highest j < numbers_in prices i) ⊎ (numbers_in prices i ≤ numbers_in highest j)
        → HighestPrice (held_shares holders) (numbers_in prices) j 0 (i + 1) (numbers_in after j)
    go j so_far (inl has) (inl more) =
        let e : numbers_in after j ≡ numbers_in prices i = omega (arith, raised.members j has) in
        rw e (highest_more so_far (omega arith) (held_some holders i j has) more)
    go j so_far (inl has) (inr less) =
        let e : numbers_in after j ≡ numbers_in highest j = omega (arith, raised.members j has) in
        rw e (highest_pass so_far (λ some. less))
    go j so_far (inr hasn't) order =
        rw (raised.others j hasn't) (highest_pass so_far (λ some. absurd (true≢false (sym (held_member holders i j some) ∙ hasn't))))

-- the prices can rise to these
pub can_raise : {work : Workload} {table holders prices highest : List ℕ} {intervals : ℕ} → CanRiseBy work table holders prices intervals
    → HighestPrices holders prices intervals highest → CanRaise work table highest prices
can_raise {work} {prices = prices} {highest} can found =
    record {
      rise = can.rise;
      size = found.size;
      each = λ j below.
          held_highest can.holding below (rw can.intervals_are at (found.each j (omega (arith, can.rise.sound.jobs_most))));
    }
