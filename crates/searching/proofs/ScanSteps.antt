-- Laws of the search's arrays: what they hold at the start and with one job more, and what holds while an interval is
-- scanned.
-- Assumes nothing.
use mathlib.Core.Path.{◌≡◌, refl, sym, ◌∙◌}
use mathlib.Core.Bool.{true, false, cond}
use mathlib.Core.Logic.{◌⊎◌, inl, inr}
use mathlib.Core.List.{List}
use Prim.Native.Nat.{ℕ, ◌+◌, ◌<◌, ◌≤◌}
use native.Mathlib.Nat.{eq-or-lt_of_le, le_of_suc-le-suc}
use native.Mathlib.Decide.{ℕ_discrete}
use native.Mathlib.Numerals.{add-one}
use native.Mathlib.Omega.{arith}
use lib.Dec.{ltb}
use lib.ListN.{length, set, length-set}
use lib.Seq.{get_or-set_same, get_or-set_other}
use borrow.Author.Tests.{lt-ltb, le-ltb, ltb-true}
use Rattle.model.specs.Limits.{max_jobs, max_intervals}
use Rattle.model.specs.Plans.{Shares}
use Rattle.model.proofs.Numbers.{lt_or_le, true≢false, both_true}
use Rattle.job_sets.specs.declared.JobSet.{JobSet}
use Rattle.job_sets.specs.JobSets.{is_member, is_empty, no_jobs, all_jobs, without_job, in_both}
use Rattle.job_sets.proofs.JobSets.{none_has, all_has, without_here, without_other, both_has, empty_has}
use Rattle.workloads.specs.Placement.{Problem, SoundProblem, OnlyOpen}
use Rattle.workloads.specs.Arrays.{numbers_in}
use Rattle.workloads.proofs.JobWindows.{window_small}
use Rattle.searching.specs.Reached.{Appended, IsListed}
use Rattle.searching.specs.Reaching.{SearchState, only_job, with_reached, Reaching, ToScan, ScanOf}
use Rattle.searching.proofs.Listing.{listed_kept}
use Rattle.searching.proofs.ReachedRange.{reached_few, reached_start, reached_more}

-- a number stored past the first `count` ones
appended_set : (array : List ℕ) (count value : ℕ) → count < length array → Appended count (numbers_in array) (numbers_in (set array count value)) value
appended_set array count value room =
    record {
      same = λ s below. get_or-set_other array count s value 0 (λ e. omega arith);
      here = get_or-set_same array count value 0 room;
    }

-- a list of functions' values with one more
appended : (listed : ℕ → ℕ) (count value : ℕ) → Appended count listed (λ s. cond (ltb s count) (listed s) value) value
appended listed count value =
    record { same = λ s below. rw (lt-ltb s count below); here = rw (le-ltb count count (omega arith)) }

-- what is listed in a longer list was listed, or is the new number
listed_before : {count value : ℕ} {before after : ℕ → ℕ} → Appended count before after value → (j : ℕ)
    → IsListed (count + 1) after j → IsListed count before j ⊎ (j ≡ value)
listed_before {count} {value} {before} {after} more j (s, below, is) = go (eq-or-lt_of_le (le_of_suc-le-suc (rw add-one at below)))
  where
    go : (s ≡ count) ⊎ (s < count) → IsListed count before j ⊎ (j ≡ value)
    go (inl e) = inr (sym (rw e at is) ∙ more.here)
    go (inr earlier) = inl (s, earlier, sym (more.same s earlier) ∙ is)

-- a set without one of its jobs
module _ (jobs : JobSet) (job : ℕ) where
  without_lacks : (j : ℕ) → is_member (without_job jobs job) j ≡ false → (j ≡ job) ⊎ (is_member jobs j ≡ false)
  without_lacks j lacks = go (ℕ_discrete j job)
    where
      go : Dec (j ≡ job) → (j ≡ job) ⊎ (is_member jobs j ≡ false)
      go (yes here) = inl here
      go (no other) = inr (sym (without_other jobs job j other) ∙ lacks)

  without_keeps : (j : ℕ) → is_member (without_job jobs job) j ≡ true → (j ≡ job → ⊥) × (is_member jobs j ≡ true)
  without_keeps j has =
      let other : j ≡ job → ⊥ = λ here. true≢false (sym (rw here at has) ∙ without_here jobs job) in
      (other, sym (without_other jobs job j other) ∙ has)

-- at the start of the search
pub reaching_start : {p : Problem} {shares : Shares} → SoundProblem p → p.jobs ≤ max_jobs → {job : ℕ} → job < p.jobs
    → (reached source : List ℕ) → numbers_in reached 0 ≡ job → length reached ≡ max_jobs → length source ≡ max_jobs
    → Reaching p shares job (only_job job (p.first job) (p.last job) reached source)
reaching_start {p} {shares} sound most {job} below reached source origin jobs-length sources-length =
    record {
      now = reached_start sound below _ _ origin;
      marked = λ j inside lacks. (0, omega arith, origin ∙ sym (its j (omega arith) (without_lacks all_jobs job j lacks)));
      unmarked = λ j inside has listed. (without_keeps all_jobs job j has).0 (only j listed);
      reached_length = jobs-length;
      source_length = sources-length;
    }
  where
    its : (j : ℕ) → j < max_jobs → (j ≡ job) ⊎ (is_member all_jobs j ≡ false) → j ≡ job
    its j small (inl here) = here
    its j small (inr lacks) = absurd (true≢false (sym (all_has j small) ∙ lacks))

    only : (j : ℕ) → IsListed 1 (numbers_in reached) j → j ≡ job
    only j (s, first, is) = let e : s ≡ 0 = omega arith in sym (rw e at is) ∙ origin

-- a job that is not listed, with a share in a reached interval
module _ {p : Problem} (sound : SoundProblem p) (most : p.jobs ≤ max_jobs) {shares : Shares} (shut : OnlyOpen p shares) {job : ℕ} {found : SearchState}
    (reaching : Reaching p shares job found) {interval j : ℕ} (from : found.start ≤ interval) (to : interval < found.end)
    (below : j < p.jobs) (share : 0 < shares interval j) (new : is_member found.unlisted j ≡ true) where
  -- there is room for it in the list
  reach_room : found.count < max_jobs
  reach_room =
      let more = reached_more sound reaching.now shut from to below share (reaching.unmarked j below new) (appended _ found.count j)
      (appended _ found.count interval) in
      omega (arith, reached_few more)

  reaching_more : Reaching p shares job (with_reached found j interval (p.first j) (p.last j))
  reaching_more =
      record {
        now =
            rw (add-one found.count)
            (reached_more sound reaching.now shut from to below share (reaching.unmarked j below new) jobs_more
            (appended_set found.source found.count interval (omega (arith, reach_room, reaching.source_length))));
        marked = λ k inside lacks. listed_now k inside (without_lacks found.unlisted j k lacks);
        unmarked = λ k inside has listed. let (other, before) = without_keeps found.unlisted j k has in
            not_now k (reaching.unmarked k inside before) other (listed_before jobs_more k listed);
        reached_length = length-set found.reached found.count j ∙ reaching.reached_length;
        source_length = length-set found.source found.count interval ∙ reaching.source_length;
      }
    where
      jobs_more : Appended found.count (numbers_in found.reached) (numbers_in (set found.reached found.count j)) j
      jobs_more = appended_set found.reached found.count j (omega (arith, reach_room, reaching.reached_length))

      listed_now : (k : ℕ) → k < p.jobs → (k ≡ j) ⊎ (is_member found.unlisted k ≡ false)
          → IsListed (found.count + 1) (numbers_in (set found.reached found.count j)) k
      listed_now k inside (inl here) = (found.count, omega arith, jobs_more.here ∙ sym here)
      listed_now k inside (inr e) = listed_kept (omega arith) jobs_more.same (reaching.marked k inside e)

      not_now : (k : ℕ) → (IsListed found.count (numbers_in found.reached) k → ⊥) → (k ≡ j → ⊥)
          → IsListed found.count (numbers_in found.reached) k ⊎ (k ≡ j) → ⊥
      not_now k before other (inl listed) = before listed
      not_now k before other (inr here) = other here

module _ {p : Problem} {shares : Shares} {job : ℕ} {holders : JobSet} {before : SearchState} {interval : ℕ} (to_scan : ToScan p shares job holders before interval) where
  -- the interval's number is small
  pub scan_small : interval < max_intervals
  scan_small = omega (arith, to_scan.to, to_scan.reaching.now.end_below, to_scan.intervals_most)

  -- no job yet: those that are not listed are new
  pub scan_start : ScanOf p shares job before interval (in_both holders before.unlisted) before
  scan_start =
      record {
        reaching = to_scan.reaching;
        start_most = omega arith;
        end_least = omega arith;
        longer = omega arith;
        same = λ s below. refl;
        listed = λ j below share lacks.
            let has : is_member holders j ≡ true = to_scan.held j below ∙ lt-ltb 0 (shares interval j) share in
            to_scan.reaching.marked j below (rw has at (sym (both_has holders before.unlisted j) ∙ lacks));
        new_below = new_below;
        new_share = λ j has. ltb-true 0 (shares interval j) (sym (to_scan.held j (new_below j has)) ∙ (common j has).0);
        new_unlisted = λ j has. (common j has).1;
        same_target = refl;
      }
    where
      common : (j : ℕ) → is_member (in_both holders before.unlisted) j ≡ true → (is_member holders j ≡ true) × (is_member before.unlisted j ≡ true)
      common j has = both_true (is_member holders j) (is_member before.unlisted j) (sym (both_has holders before.unlisted j) ∙ has)

      new_below : (j : ℕ) → is_member (in_both holders before.unlisted) j ≡ true → j < p.jobs
      new_below j has = go (lt_or_le j p.jobs)
        where
          go : (j < p.jobs) ⊎ (p.jobs ≤ j) → j < p.jobs
          go (inl below) = below
          go (inr past) = absurd (true≢false (sym (common j has).0 ∙ to_scan.held_past j past))

  module _ {new : JobSet} {found : SearchState} (scan : ScanOf p shares job before interval new found) where
    -- no job is new any more
    pub scan_end : is_empty new ≡ true → ScanOf p shares job before interval no_jobs found
    scan_end none =
        record {
          reaching = scan.reaching;
          start_most = scan.start_most;
          end_least = scan.end_least;
          longer = scan.longer;
          same = scan.same;
          listed = λ j below share lacks. scan.listed j below share (empty_has new none j);
          new_below = λ j has. absurd (true≢false (sym has ∙ none_has j));
          new_share = λ j has. absurd (true≢false (sym has ∙ none_has j));
          new_unlisted = λ j has. absurd (true≢false (sym has ∙ none_has j));
          same_target = scan.same_target;
        }

    module _ (j : ℕ) (is-new : is_member new j ≡ true) where
      -- its window is among the intervals
      pub scan_window : (p.first j < max_intervals) × (p.last j ≤ max_intervals)
      scan_window = window_small to_scan.sound to_scan.intervals_most (scan.new_below j is-new)

      pub scan_room : found.count < max_jobs
      scan_room =
          reach_room to_scan.sound to_scan.jobs_most to_scan.shut scan.reaching {interval = interval}
          (omega (arith, scan.start_most, to_scan.from)) (omega (arith, scan.end_least, to_scan.to)) (scan.new_below j is-new)
          (scan.new_share j is-new) (scan.new_unlisted j is-new)

      -- a job that is not listed yet
      pub scan_reach : ScanOf p shares job before interval (without_job new j) (with_reached found j interval (p.first j) (p.last j))
      scan_reach =
          record {
            reaching =
                reaching_more to_scan.sound to_scan.jobs_most to_scan.shut scan.reaching
                (omega (arith, scan.start_most, to_scan.from)) (omega (arith, scan.end_least, to_scan.to)) (scan.new_below j is-new)
                (scan.new_share j is-new) (scan.new_unlisted j is-new);
            start_most = omega (arith, scan.start_most);
            end_least = omega (arith, scan.end_least);
            longer = omega (arith, scan.longer);
            same = λ s h. jobs_more.same s (omega (arith, scan.longer)) ∙ scan.same s h;
            listed = λ k below share lacks. listed_now k below share (without_lacks new j k lacks);
            new_below = λ k has. scan.new_below k (without_keeps new j k has).1;
            new_share = λ k has. scan.new_share k (without_keeps new j k has).1;
            new_unlisted = λ k has.
                let (other, before-it) = without_keeps new j k has in
                without_other found.unlisted j k other ∙ scan.new_unlisted k before-it;
            same_target = scan.same_target;
          }
        where
          jobs_more : Appended found.count (numbers_in found.reached) (numbers_in (set found.reached found.count j)) j
          jobs_more = appended_set found.reached found.count j (omega (arith, scan_room, scan.reaching.reached_length))

          listed_now : (k : ℕ) → k < p.jobs → 0 < shares interval k → (k ≡ j) ⊎ (is_member new k ≡ false)
              → IsListed (found.count + 1) (numbers_in (set found.reached found.count j)) k
          listed_now k below share (inl here) = (found.count, omega arith, jobs_more.here ∙ sym here)
          listed_now k below share (inr lacks) = listed_kept (omega arith) jobs_more.same (scan.listed k below share lacks)
