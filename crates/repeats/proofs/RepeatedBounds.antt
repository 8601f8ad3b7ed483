-- The jobs and the bounds of repeats, by repeat and number within it.
-- Assumes nothing.
use mathlib.Core.Path.{◌≡◌, sym, ◌∙◌}
use mathlib.Core.Logic.{◌⊎◌, inl, inr}
use mathlib.Core.List.{List}
use Prim.Native.Nat.{ℕ, suc, ◌+◌, ◌*◌, ◌/◌, ◌%◌, ◌<◌, ◌≤◌}
use native.Mathlib.Nat.{le_of_suc-le-suc, mul-le-mul_right, lt_of_mul-lt-mul_right}
use native.Mathlib.Omega.{arith}
use lib.ListN.{length}
use borrow.Author.Tests.{lt-ltb, le-ltb}
use Rattle.model.specs.declared.Job.{Job}
use Rattle.model.specs.Entries.{list_of}
use Rattle.model.specs.Jobs.{no_job, job_of}
use Rattle.model.specs.Intervals.{interval_count, bound_at, earliest_release, latest_deadline, Bounds}
use Rattle.model.proofs.Numbers.{lt_or_le}
use Rattle.model.proofs.Entries.{length_list_of, get_d_list_of}
use Rattle.model.proofs.Intervals.{number_rises}
use Rattle.model.proofs.BoundsOf.{ReleasesFirst, StandsIn}
use Rattle.repeats.specs.Repeats.{later_by, repeat_jobs, round_size, repeat_bounds}
use Rattle.repeats.proofs.Rows.{row_at, column_at, each_number, each_row, in_rows}
use Rattle.repeats.proofs.Ends.{earliest_low, earliest_met, latest_high, latest_met}

pub length_repeat_jobs : (H r : ℕ) (jobs : List Job) → length (repeat_jobs H r jobs) ≡ r * length jobs
unfolding repeat_jobs
length_repeat_jobs H r jobs = length_list_of (r * length jobs) _

pub job_of_repeat_jobs : (H r : ℕ) (jobs : List Job) (k j : ℕ) → k < r → j < length jobs
    → job_of (repeat_jobs H r jobs) (k * length jobs + j) ≡ later_by (k * H) (job_of jobs j)
unfolding repeat_jobs
job_of_repeat_jobs H r jobs k j row column =
    rw (
      get_d_list_of (r * length jobs) (λ t. later_by (t / length jobs * H) (job_of jobs (t % length jobs))) (k * length jobs + j) no_job
          (in_rows r (length jobs) k j row column),
      row_at (length jobs) k j column,
      column_at (length jobs) k j column,
    )

-- A round whose repeats, H ticks apart, do not overlap: some job, and the last bound at most H after the first.
pub record Repeatable (H : ℕ) (jobs : List Job) (bounds : List ℕ) : Type 0 where
  pub some : 0 < length jobs
  pub ordered : ReleasesFirst jobs
  pub are_bounds : Bounds jobs bounds
  pub apart : bound_at bounds (interval_count bounds) ≤ H + bound_at bounds 0

module _ {H : ℕ} {jobs : List Job} {bounds : List ℕ} (R : Repeatable H jobs bounds) where
  abbrev N : ℕ
  N = interval_count bounds

  abbrev P : ℕ
  P = round_size H bounds

  abbrev at : ℕ → ℕ
  at = bound_at bounds

  pub some_interval : 0 < interval_count bounds
  some_interval =
      let release = R.are_bounds.release_found 0 R.some in
      let deadline = R.are_bounds.deadline_found 0 R.some in
      let less = number_rises R.are_bounds release.0 deadline.0 release.1 (omega (arith, release.2, deadline.2, R.ordered 0 R.some)) in
      omega (arith, deadline.1)

  -- the next round starts as one ends, or a stretch lies between
  abbrev pub JoinedOrApart : Type 0
  JoinedOrApart =
      ((round_size H bounds ≡ interval_count bounds) × (bound_at bounds (interval_count bounds) ≡ H + bound_at bounds 0))
      ⊎ ((round_size H bounds ≡ suc (interval_count bounds)) × (bound_at bounds (interval_count bounds) < H + bound_at bounds 0))

  pub joined_or_apart : JoinedOrApart
  unfolding round_size
  joined_or_apart = go (lt_or_le (at N) (H + at 0))
    where
      go : (at N < H + at 0) ⊎ (H + at 0 ≤ at N) → JoinedOrApart
      go (inl less) = inr (rw (lt-ltb (at N) (H + at 0) less) (omega arith), less)
      go (inr most) = inl (rw (le-ltb (at N) (H + at 0) most) (omega arith), omega (arith, R.apart))

  pub size_low : interval_count bounds ≤ round_size H bounds
  size_low = go joined_or_apart
    where
      go : JoinedOrApart → N ≤ P
      go (inl h) = omega (arith, h.0)
      go (inr h) = omega (arith, h.0)

  pub release_low : (j : ℕ) → j < length jobs → bound_at bounds 0 ≤ (job_of jobs j).release
  release_low j below = omega (arith, R.are_bounds.first, earliest_low jobs j below)

  pub deadline_high : (j : ℕ) → j < length jobs → (job_of jobs j).deadline ≤ bound_at bounds (interval_count bounds)
  deadline_high j below = omega (arith, R.are_bounds.last, latest_high jobs j below)

  module _ (more : ℕ) where
    abbrev RB : List ℕ
    RB = repeat_bounds H bounds (suc more)

    abbrev RJ : List Job
    RJ = repeat_jobs H (suc more) jobs

    all_bounds : RB ≡ list_of (suc (more * P + N)) (λ t. t / P * H + at (t % P))
    unfolding repeat_bounds
    all_bounds = rw (lt-ltb 0 N some_interval)

    pub length_repeat_bounds : length (repeat_bounds H bounds (suc more)) ≡ suc (more * round_size H bounds + interval_count bounds)
    length_repeat_bounds = rw all_bounds (length_list_of (suc (more * P + N)) _)

    pub count_repeat_bounds : interval_count (repeat_bounds H bounds (suc more)) ≡ more * round_size H bounds + interval_count bounds
    count_repeat_bounds = omega (arith, length_repeat_bounds)

    bound_of : (t : ℕ) → t ≤ more * P + N → bound_at RB t ≡ t / P * H + at (t % P)
    bound_of t within = rw all_bounds (get_d_list_of (suc (more * P + N)) (λ t. t / P * H + at (t % P)) t 0 (omega arith))

    pub bound_below : (k i : ℕ) → k ≤ more → i ≤ interval_count bounds → k * round_size H bounds + i ≤ more * round_size H bounds + interval_count bounds
    bound_below k i row column = omega (arith, mul-le-mul_right P row)

    -- bound i of repeat k, the last one of a round too: where rounds join it is the first of the next
    pub bound_in : (k i : ℕ) → k ≤ more → i ≤ interval_count bounds
        → bound_at (repeat_bounds H bounds (suc more)) (k * round_size H bounds + i) ≡ k * H + bound_at bounds i
    bound_in k i row column = bound_of (k * P + i) (bound_below k i row column) ∙ go (lt_or_le i P) joined_or_apart
      where
        go : (i < P) ⊎ (P ≤ i) → JoinedOrApart → (k * P + i) / P * H + at ((k * P + i) % P) ≡ k * H + at i
        go (inl inside) which = rw (row_at P k i inside, column_at P k i inside)
        go (inr past) (inl joined) =
            let positive : 0 < P = omega (arith, some_interval, size_low) in
            let e : k * P + i ≡ suc k * P + 0 = omega (arith, joined.0) in
            let last : i ≡ N = omega (arith, joined.0) in
            rw (e, row_at P (suc k) 0 positive, column_at P (suc k) 0 positive, last) (omega (arith, joined.1))
        go (inr past) (inr apart) = absurd (omega (arith, apart.0))

    pub bound_after : (k i : ℕ) → k ≤ more → i < interval_count bounds
        → bound_at (repeat_bounds H bounds (suc more)) (suc (k * round_size H bounds + i)) ≡ k * H + bound_at bounds (suc i)
    bound_after k i row column = let e : suc (k * P + i) ≡ k * P + suc i = omega arith in rw e (bound_in k (suc i) row column)

    -- after a stretch between rounds, the first bound of the next repeat
    pub bound_next : (k : ℕ) → k < more → round_size H bounds ≡ suc (interval_count bounds)
        → bound_at (repeat_bounds H bounds (suc more)) (suc (k * round_size H bounds + interval_count bounds)) ≡ suc k * H + bound_at bounds 0
    bound_next k row size = let e : suc (k * P + N) ≡ suc k * P + 0 = omega (arith, size) in rw e (bound_in (suc k) 0 row (omega arith))

    -- an interval is one of a repeat, or a stretch between two
    pub each_interval : (Goal : ℕ → Type 0) → ((k i : ℕ) → k ≤ more → i < interval_count bounds → Goal (k * round_size H bounds + i))
        → ((k : ℕ) → k < more → round_size H bounds ≡ suc (interval_count bounds) → bound_at bounds (interval_count bounds) < H + bound_at bounds 0
        → Goal (k * round_size H bounds + interval_count bounds))
        → (t : ℕ) → t < interval_count (repeat_bounds H bounds (suc more)) → Goal t
    each_interval Goal inside between t below =
        each_number P (λ t. t < more * P + N → Goal t) (omega (arith, some_interval, size_low))
        (λ k i column under. go k i column under (lt_or_le i N) joined_or_apart) t (omega (arith, count_repeat_bounds))
      where
        go : (k i : ℕ) → i < P → k * P + i < more * P + N → (i < N) ⊎ (N ≤ i) → JoinedOrApart → Goal (k * P + i)
        go k i column under (inl h) which =
            let less : k * P < suc more * P = omega (arith, size_low) in
            inside k i (le_of_suc-le-suc (lt_of_mul-lt-mul_right P less)) h
        go k i column under (inr h) (inl joined) = absurd (omega (arith, joined.0))
        go k i column under (inr h) (inr apart) =
            let last : i ≡ N = omega (arith, apart.0) in
            let less : k * P < more * P = omega arith in
            rw last (between k (lt_of_mul-lt-mul_right P less) apart.0 apart.1)

    pub each_job : (Goal : ℕ → Type 0) → ((k j : ℕ) → k ≤ more → j < length jobs → Goal (k * length jobs + j))
        → (t : ℕ) → t < length (repeat_jobs H (suc more) jobs) → Goal t
    each_job Goal each t below =
        each_row (suc more) (length jobs) Goal (λ k j row column. each k j (le_of_suc-le-suc row) column) t
        (omega (arith, length_repeat_jobs H (suc more) jobs))

    pub job-in : (k j : ℕ) → k ≤ more → j < length jobs → job_of (repeat_jobs H (suc more) jobs) (k * length jobs + j) ≡ later_by (k * H) (job_of jobs j)
    job-in k j row column = job_of_repeat_jobs H (suc more) jobs k j (omega arith) column

    pub number_below : (k j : ℕ) → k ≤ more → j < length jobs → k * length jobs + j < length (repeat_jobs H (suc more) jobs)
    number_below k j row column = omega (arith, length_repeat_jobs H (suc more) jobs, in_rows (suc more) (length jobs) k j (omega arith) column)

    -- each release of a repeat still lies before its deadline
    pub releases_first : ReleasesFirst (repeat_jobs H (suc more) jobs)
    releases_first =
        each_job (λ J. (job_of RJ J).release < (job_of RJ J).deadline)
        (λ k j row job. rw (job-in k j row job) (omega (arith, R.ordered j job)))

    earliest_repeats : earliest_release RJ ≡ earliest_release jobs
    earliest_repeats =
        let met = earliest_met jobs R.some in
        let here = job-in 0 met.0 (omega arith) met.1 in
        let low = earliest_low RJ (0 * length jobs + met.0) (number_below 0 met.0 (omega arith) met.1) in
        let low-too : earliest_release RJ ≤ (later_by (0 * H) (job_of jobs met.0)).release = rw here at low in
        let all = earliest_met RJ (omega (arith, number_below 0 0 (omega arith) R.some)) in
        let high = each_job (λ t. earliest_release jobs ≤ (job_of RJ t).release)
        (λ k j row column. rw (job-in k j row column) (omega (arith, earliest_low jobs j column))) all.0 all.1 in
        omega (arith, met.2, all.2)

    latest_repeats : latest_deadline RJ ≡ more * H + latest_deadline jobs
    latest_repeats =
        let met = latest_met jobs R.some in
        let here = job-in more met.0 (omega arith) met.1 in
        let high = latest_high RJ (more * length jobs + met.0) (number_below more met.0 (omega arith) met.1) in
        let high-too : (later_by (more * H) (job_of jobs met.0)).deadline ≤ latest_deadline RJ = rw here at high in
        let all = latest_met RJ (omega (arith, number_below 0 0 (omega arith) R.some)) in
        let low = each_job (λ t. (job_of RJ t).deadline ≤ more * H + latest_deadline jobs)
        (λ k j row column. rw (job-in k j row column) (omega (arith, mul-le-mul_right H row, latest_high jobs j column))) all.0 all.1 in
        omega (arith, met.2, all.2)

    rises : (t : ℕ) → t < interval_count RB → bound_at RB t < bound_at RB (suc t)
    rises = each_interval (λ t. bound_at RB t < bound_at RB (suc t))
        (λ k i row column. rw (bound_in k i row (omega arith), bound_after k i row column) (omega (arith, R.are_bounds.rises i (omega arith))))
        (λ k row size less. rw (bound_in k N (omega arith) (omega arith), bound_next k row size) (omega arith))

    first : bound_at RB 0 ≡ earliest_release RJ
    first =
        let e : 0 ≡ 0 * P + 0 = omega arith in
        let here : bound_at RB (0 * P + 0) ≡ 0 * H + at 0 = bound_in 0 0 (omega arith) (omega arith) in
        let zero-there : bound_at RB 0 ≡ 0 * H + at 0 = rw (sym e) at here in
        omega (arith, earliest_repeats, R.are_bounds.first)

    last : bound_at RB (interval_count RB) ≡ latest_deadline RJ
    last = rw count_repeat_bounds (omega (arith, bound_in more N (omega arith) (omega arith), latest_repeats, R.are_bounds.last))

    -- a bound of the round is one of each repeat
    found_in : (k time : ℕ) → k ≤ more → StandsIn bounds time → StandsIn RB (k * H + time)
    found_in k time row found =
        let in_round : found.0 ≤ N = omega (arith, found.1) in (
          k * P + found.0,
          omega (arith, length_repeat_bounds, bound_below k found.0 row in_round),
          rw (bound_in k found.0 row in_round) (omega (arith, found.2)),
        )

    pub bounds_repeat : Bounds (repeat_jobs H (suc more) jobs) (repeat_bounds H bounds (suc more))
    bounds_repeat =
        record {
          rises = λ t below. rises t (omega arith);
          release_found = each_job (λ J. StandsIn RB (job_of RJ J).release)
              (λ k j row column. rw (job-in k j row column) (found_in k (job_of jobs j).release row (R.are_bounds.release_found j column)));
          deadline_found = each_job (λ J. StandsIn RB (job_of RJ J).deadline)
              (λ k j row column. rw (job-in k j row column) (found_in k (job_of jobs j).deadline row (R.are_bounds.deadline_found j column)));
          first = first;
          last = last;
        }
