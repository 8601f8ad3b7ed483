-- The repeated plan, slot by slot: in each repeat that of the round, and idling in between.
-- Assumes nothing.
use mathlib.Core.Path.{◌≡◌, refl, sym, ap}
use mathlib.Core.Bool.{Bool, true, false, cond}
use mathlib.Core.Logic.{◌⊎◌, inl, inr}
use mathlib.Core.List.{List}
use Prim.Native.Nat.{ℕ, zero, suc, ◌+◌, ◌-◌, ◌*◌, ◌<◌, ◌≤◌}
use native.Mathlib.Nat.{eq-zero-or-pos, mul-pos}
use native.Mathlib.Omega.{arith}
use lib.ListN.{length}
use lib.Dec.{ltb}
use borrow.Author.Tests.{le-ltb}
use Rattle.model.specs.declared.Level.{Level}
use Rattle.model.specs.declared.Job.{Job}
use Rattle.model.specs.Sum.{sum}
use Rattle.model.specs.Search.{first_below}
use Rattle.model.specs.Points.{points, RisingPoints}
use Rattle.model.specs.Setting.{setting_of}
use Rattle.model.specs.Processors.{all_points, top_of}
use Rattle.model.specs.Intervals.{interval_count, bound_at, length_of}
use Rattle.model.specs.Sites.{Site}
use Rattle.model.specs.Plans.{Shares, load, Gives}
use Rattle.model.specs.Schedules.{idles, IsGiven, horizon}
use Rattle.model.specs.CarriedOut.{slots_per_tick, working_points, point_number, slot_of_point, point_in_slot, delivered_before, job_in_slot, slot_of}
use Rattle.model.proofs.Numbers.{lt_or_le}
use Rattle.model.proofs.Search.{FirstBelow, first_below_is, first_below_law}
use Rattle.model.proofs.Sum.{sum_cong, sum_zero, sum_split, sum_longer}
use Rattle.model.proofs.Intervals.{bounds_mono, length_reaches}
use Rattle.model.proofs.PointNumbers.{idling_number}
use Rattle.model.proofs.SlotsOfBounds.{first_slot, slot_in_interval, all_slots}
use Rattle.model.proofs.PlansAreSchedules.{given-in, slot_found}
use Rattle.repeats.specs.Repeats.{repeat_jobs, round_size, repeat_bounds, repeat_shares, repeat_site}
use Rattle.repeats.specs.RunAgain.{later_slot, slot_count_of, slot_at, start_of_repeat, RunAgain}
use Rattle.repeats.proofs.Rows.{each_row}
use Rattle.repeats.proofs.Ends.{latest_none}
use Rattle.repeats.proofs.RepeatedBounds.{
  length_repeat_jobs,
  Repeatable,
  JoinedOrApart,
  joined_or_apart,
  some_interval,
  size_low,
  count_repeat_bounds,
  bound_in,
  bound_below,
  bound_next,
  number_below,
  bounds_repeat,
}
use Rattle.repeats.proofs.RepeatedShares.{length_in, share_in, share_other, load_in, load_between, gives_repeat}

-- An interval without load stands on the first working point.
no_load_point : (idle_power : ℕ) (levels : List Level) (jobs : List Job) (bounds : List ℕ) (shares : Shares) (i u : ℕ)
    → load jobs shares i ≡ 0 → point_in_slot idle_power levels jobs bounds shares i u ≡ 0
unfolding point_in_slot setting_of
no_load_point idle_power levels jobs bounds shares i u none = rw none (either (ltb (u * 0) (slots_per_tick (working_points idle_power levels) * 0)))
  where
    either : (t : Bool) → cond t 0 (0 - 1) ≡ 0
    either true = refl
    either false = refl

-- A slot of an interval without load idles.
pub no_load_idles : (idle_power : ℕ) (levels : List Level) → RisingPoints (points idle_power levels)
    → (jobs : List Job) (bounds : List ℕ) (shares : Shares) (i u job : ℕ)
    → load jobs shares i ≡ 0 → slot_of_point (point_number (points idle_power levels) (point_in_slot idle_power levels jobs bounds shares i u)) job ≡ idles
no_load_idles idle_power levels rising jobs bounds shares i u job none =
    rw (no_load_point idle_power levels jobs bounds shares i u none, idling_number (points idle_power levels) rising)

-- A slot with a given job, and the same slot with that job of a later repeat. Where the slot idles no job counts.
slot_later : (levels : List Level) (jobs : List Job) (point job later numbers : ℕ) → IsGiven levels jobs (slot_of_point point job)
    → (job < length jobs → later ≡ numbers + job) → slot_of_point point later ≡ later_slot numbers (slot_of_point point job)
slot_later levels jobs zero job later numbers given moved = refl
slot_later levels jobs (suc level) job later numbers given moved = rw (moved given.1)

module _ (site : Site) {H : ℕ} (R : Repeatable H site.jobs site.bounds) (more : ℕ) (shares : Shares) where
  abbrev idle_power : ℕ
  idle_power = site.processor.idle_power

  abbrev levels : List Level
  levels = site.processor.levels

  abbrev jobs : List Job
  jobs = site.jobs

  abbrev bounds : List ℕ
  bounds = site.bounds

  abbrev q : ℕ
  q = slots_per_tick (working_points idle_power levels)

  abbrev N : ℕ
  N = interval_count bounds

  abbrev P : ℕ
  P = round_size H bounds

  abbrev n : ℕ
  n = length jobs

  abbrev RB : List ℕ
  RB = repeat_bounds H bounds (suc more)

  abbrev RJ : List Job
  RJ = repeat_jobs H (suc more) jobs

  abbrev RS : Shares
  RS = repeat_shares H site shares

  -- in an interval of repeat k, the jobs of the repeats before it have no shares
  none_before : (k i : ℕ) → i < N → sum (k * n) (RS (k * P + i)) ≡ 0
  none_before k i column =
      sum_zero (k * n)
      (each_row k n (λ J. RS (k * P + i) J ≡ 0)
      (λ l j row job. share_other site R more shares k i l j (omega (arith, size_low R)) job (λ e h. omega arith)))

  -- so the shares of the jobs up to j of repeat k add up as those of the round up to j
  sum_in : (k i j : ℕ) → i < N → j ≤ n → sum (k * n + j) (RS (k * P + i)) ≡ sum j (shares i)
  sum_in k i j column within =
      let own : sum j (λ d. RS (k * P + i) (k * n + d)) ≡ sum j (shares i) =
      sum_cong j (λ d below. share_in site R more shares k i d column (omega arith)) in
      omega (arith, sum_split (k * n) j (RS (k * P + i)), none_before k i column)

  -- when so much has been delivered it is the turn of the same job, that of repeat k
  turn_in : (k i delivered j : ℕ) → k ≤ more → i < N → j < n
      → first_below n (λ j. ltb delivered (q * sum (suc j) (shares i))) ≡ j
      → first_below (length RJ) (λ J. ltb delivered (q * sum (suc J) (RS (k * P + i)))) ≡ k * n + j
  turn_in k i delivered j row column below e =
      first_below_is (length RJ) (λ J. ltb delivered (q * sum (suc J) (RS (k * P + i)))) (k * n + j)
      (number_below R more k j row below) (λ J earlier. over J earlier (lt_or_le J (k * n))) (at_turn j below (law.here below))
    where
      law : FirstBelow n (λ j. ltb delivered (q * sum (suc j) (shares i))) j
      law = rw e at (first_below_law n (λ j. ltb delivered (q * sum (suc j) (shares i))))

      at_turn : {answer : Bool} (l : ℕ) → l < n → ltb delivered (q * sum (suc l) (shares i)) ≡ answer
          → ltb delivered (q * sum (suc (k * n + l)) (RS (k * P + i))) ≡ answer
      at_turn l inside is = let next : suc (k * n + l) ≡ k * n + suc l = omega arith in rw (next, sum_in k i (suc l) column inside) is

      over : (J : ℕ) → J < k * n + j → (J < k * n) ⊎ (k * n ≤ J) → ltb delivered (q * sum (suc J) (RS (k * P + i))) ≡ false
      over J earlier (inl early) =
          let none : sum (suc J) (RS (k * P + i)) ≡ 0 = omega (arith, sum_longer {k = suc J} {n = k * n} (RS (k * P + i)) early, none_before k i column) in
          rw none (le-ltb delivered (q * 0) (omega arith))
      over J earlier (inr own) =
          let place : J ≡ k * n + (J - k * n) = omega arith in
          rw place (at_turn (J - k * n) (omega arith) (law.before (J - k * n) (omega arith)))

  -- the working point, what is delivered and the job of slot u in an interval of repeat k
  point-in : (k i u : ℕ) → k ≤ more → i < N → point_in_slot idle_power levels RJ RB RS (k * P + i) u ≡ point_in_slot idle_power levels jobs bounds shares i u
  unfolding point_in_slot
  point-in k i u row column = rw (length_in site R more k i row column, load_in site R more shares k i row column)

  delivered_in : (k i u : ℕ) → k ≤ more → i < N → delivered_before idle_power levels RJ RB RS (k * P + i) u ≡ delivered_before idle_power levels jobs bounds shares i u
  unfolding delivered_before
  delivered_in k i u row column =
      sum_cong u (λ v below. rw (point-in k i v row column))

  job_later : (k i u : ℕ) → k ≤ more → i < N → job_in_slot idle_power levels jobs bounds shares i u < n
      → job_in_slot idle_power levels RJ RB RS (k * P + i) u ≡ k * n + job_in_slot idle_power levels jobs bounds shares i u
  unfolding job_in_slot
  job_later k i u row column below =
      rw (delivered_in k i u row column)
      (turn_in k i (delivered_before idle_power levels jobs bounds shares i u) _ row column below refl)

  -- the first slot of an interval of repeat k
  first_bound : bound_at RB 0 ≡ bound_at bounds 0
  first_bound =
      let e : 0 ≡ 0 * P + 0 = omega arith in
      let here : bound_at RB (0 * P + 0) ≡ 0 * H + bound_at bounds 0 = bound_in R more 0 0 (omega arith) (omega arith) in
      let there : bound_at RB 0 ≡ 0 * H + bound_at bounds 0 = rw (sym e) at here in
      omega arith

  first-slot : (k i : ℕ) → k ≤ more → i ≤ N → first_slot q RB (k * P + i) ≡ start_of_repeat site H k + first_slot q bounds i
  first-slot k i row within =
      let ticks : bound_at RB (k * P + i) - bound_at RB 0 ≡ k * H + (bound_at bounds i - bound_at bounds 0) =
      omega (arith, bound_in R more k i row within, first_bound, bounds_mono R.are_bounds 0 i (omega arith) (omega (arith, some_interval R))) in
      rw ticks (omega arith)

  -- the slots of all rounds, and of the stretches between
  slots_in_all : slot_count_of (repeat_site H (suc more) site) ≡ start_of_repeat site H more + slot_count_of site
  slots_in_all =
      let last : first_slot q RB (interval_count RB) ≡ first_slot q RB (more * P + N) = rw (count_repeat_bounds R more) in
      omega (arith, all_slots (bounds_repeat R more) q, all_slots R.are_bounds q, first-slot more N (omega arith) (omega arith))

  module _ (rising : RisingPoints (all_points site.processor)) (gives : Gives (top_of site.processor) site.jobs site.bounds shares) where
    -- slot u of an interval of repeat k
    found_in : (t u : ℕ) → t < interval_count RB → u < q * length_of RB t
        → slot_at (repeat_site H (suc more) site) RS (first_slot q RB t + u)
        ≡ slot_of_point (point_number (points idle_power levels) (point_in_slot idle_power levels RJ RB RS t u)) (job_in_slot idle_power levels RJ RB RS t u)
    found_in = slot_found idle_power levels RJ RB RS rising (bounds_repeat R more) (gives_repeat site R more shares gives)

    in-interval : (k i u : ℕ) → k ≤ more → i < N → u < q * length_of bounds i
        → slot_at (repeat_site H (suc more) site) RS (start_of_repeat site H k + (first_slot q bounds i + u))
        ≡ later_slot (k * n) (slot_at site shares (first_slot q bounds i + u))
    in-interval k i u row column below =
        let place : start_of_repeat site H k + (first_slot q bounds i + u) ≡ first_slot q RB (k * P + i) + u =
        omega (arith, first-slot k i row (omega arith)) in
        let inside : k * P + i < interval_count RB = omega (arith, count_repeat_bounds R more, bound_below R more k (suc i) row column) in
        rw (
          place,
          found_in (k * P + i) u inside (rw (length_in site R more k i row column) below),
          slot_found idle_power levels jobs bounds shares rising R.are_bounds gives i u column below,
          point-in k i u row column,
        )
        (slot_later levels jobs (point_number (points idle_power levels) (point_in_slot idle_power levels jobs bounds shares i u)) _ _ (k * n)
        (given-in idle_power levels jobs bounds shares rising R.are_bounds gives i column u below)
        (job_later k i u row column))

    -- where a stretch lies between two rounds, its slots reach to the next one
    stretch_ends : (k : ℕ) → k < more → P ≡ suc N → k * P + N < interval_count RB
        → first_slot q RB (k * P + N) + q * length_of RB (k * P + N) ≡ start_of_repeat site H (suc k)
    stretch_ends k row size inside =
        let ticks : bound_at bounds N - bound_at bounds 0 + length_of RB (k * P + N) ≡ H =
        omega (
          arith,
          length_reaches (bounds_repeat R more) (k * P + N) inside,
          bound_in R more k N (omega arith) (omega arith),
          bound_next R more k row size,
          bounds_mono R.are_bounds 0 N (omega arith) (omega (arith, some_interval R)),
        ) in
        omega (arith, first-slot k N (omega arith) (omega arith), ap (λ (x : ℕ). q * x) ticks)

    idle_between : (k s : ℕ) → k < more → start_of_repeat site H k + slot_count_of site ≤ s → s < start_of_repeat site H (suc k)
        → slot_at (repeat_site H (suc more) site) RS s ≡ idles
    idle_between k s row past below = go (joined_or_apart R)
      where
        starts : first_slot q RB (k * P + N) ≡ start_of_repeat site H k + slot_count_of site
        starts = omega (arith, first-slot k N (omega arith) (omega arith), all_slots R.are_bounds q)

        go : JoinedOrApart R → slot_at (repeat_site H (suc more) site) RS s ≡ idles
        go (inl joined) =
            let ticks : bound_at bounds N - bound_at bounds 0 ≡ H = omega (arith, joined.1) in
            absurd (omega (arith, all_slots R.are_bounds q, ap (λ (x : ℕ). q * x) ticks))
        go (inr apart) =
            let inside : k * P + N < interval_count RB =
            omega (arith, count_repeat_bounds R more, bound_below R more (suc k) 0 row (omega arith), apart.0, some_interval R) in
            let u : ℕ = s - first_slot q RB (k * P + N) in
            let place : s ≡ first_slot q RB (k * P + N) + u = omega (arith, starts) in
            rw (place, found_in (k * P + N) u inside (omega (arith, starts, stretch_ends k row apart.0 inside)))
            (no_load_idles idle_power levels rising RJ RB RS (k * P + N) u _ (load_between site R more shares k apart.0))

    pub run_again : RunAgain H (suc more) site shares
    run_again = record {
      in_round = λ k u row below.
          let (i, column, found) = slot_in_interval R.are_bounds q u below in
          rw (← found.2) (in-interval k i found.0 (omega arith) column found.1);
      between = λ k s row past below. idle_between k s (omega arith) (omega arith) (omega arith);
      all_slots = λ repeats some.
          let rounds : suc more - 1 ≡ more = omega arith in
          omega (arith, slots_in_all, ap (start_of_repeat site H) rounds);
    }

-- a round of no job has no slots
no_slots : (jobs : List Job) → length jobs ≡ 0 → horizon jobs ≡ 0
unfolding horizon
no_slots jobs empty = omega (arith, latest_none jobs empty)

-- where there are no repeats, or none of a job, nothing runs
module _ (H r : ℕ) (site : Site) (shares : Shares) (rising : RisingPoints (all_points site.processor)) (none : r * length site.jobs ≡ 0) where
  no_load : (i : ℕ) → load (repeat_jobs H r site.jobs) (repeat_shares H site shares) i ≡ 0
  unfolding load sum
  no_load i = rw (length_repeat_jobs H r site.jobs, none)

  all_idle : (s : ℕ) → slot_at (repeat_site H r site) (repeat_shares H site shares) s ≡ idles
  unfolding slot_of
  all_idle s = no_load_idles site.processor.idle_power site.processor.levels rising _ _ _ _ _ _ (no_load _)

  pub nothing_runs : RunAgain H r site shares
  nothing_runs = record {
    in_round = λ k u row below. absurd (never k u row below (eq-zero-or-pos (length site.jobs)));
    between = λ k s row past below. all_idle s;
    all_slots = λ repeats some. absurd (omega (arith, mul-pos repeats some));
  }
    where
      never : (k u : ℕ) → k < r → u < slot_count_of site
          → (length site.jobs ≡ 0) ⊎ (0 < length site.jobs) → ⊥
      never k u row below (inl empty) =
          let all : slot_count_of site ≡ 0 = rw (no_slots site.jobs empty) (omega arith) in
          omega arith
      never k u row below (inr some) = let repeats : 0 < r = omega arith in omega (arith, mul-pos repeats some)
