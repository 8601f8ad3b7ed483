-- Laws of the starts, taken one after another: for each end the least spare of the windows from the releases so far, what is due of the jobs
-- released from the start on, and the rooms of the jobs released before it.
-- Assumes nothing.
use mathlib.Core.Path.{◌≡◌, refl, sym, ◌∙◌, ap}
use mathlib.Core.Bool.{Bool, true, false, not, ◌&&◌}
use mathlib.Core.Logic.{◌⊎◌, inl, inr}
use mathlib.Core.List.{List}
use mathlib.Core.Option.{none}
use Prim.Native.Nat.{ℕ, suc, ◌+◌, ◌-◌, ◌*◌, ◌^◌, ◌<◌, ◌≤◌, min}
use native.Mathlib.Nat.{mul-le-mul}
use native.Mathlib.Omega.{arith}
use lib.ListN.{length, get_or, replicate, length-replicate, get_or-replicate}
use lib.Seq.{take-length}
use lib.Dec.{eqb, leb}
use borrow.Author.Tests.{eq-eqb, ne_eqb}
use Rattle.model.specs.declared.Job.{Job}
use Rattle.model.specs.Limits.{max_jobs, max_intervals, max_bounds, max_deadline, max_frequency}
use Rattle.model.specs.Sum.{sum, only_if}
use Rattle.model.specs.Jobs.{job_of}
use Rattle.model.specs.Intervals.{interval_count, bound_at, Bounds}
use Rattle.model.specs.Windows.{cycles_inside, earliest_overfull}
use Rattle.model.proofs.Numbers.{lt_or_le, true_or_false, true≢false}
use Rattle.model.proofs.Sum.{sum_cong, sum_add, sum_zero, sum_shorter, sum_term}
use Rattle.model.proofs.Intervals.{bounds_rise, bounds_mono, number_rises, number_mono}
use Rattle.intervals.proofs.SmallBounds.{small-bounds}
use Rattle.job_sets.specs.declared.JobSet.{JobSet}
use Rattle.job_sets.specs.JobSets.{is_member, is_empty, all_jobs, in_both, in_first_only}
use Rattle.job_sets.specs.IntervalSets.{set_in}
use Rattle.job_sets.proofs.JobSets.{all_has, both_has, less_has, empty_has}
use Rattle.workloads.specs.Arrays.{numbers_in}
use Rattle.due_cycles.specs.Due.{due_at}
use Rattle.windows.specs.WindowTests.{HasReleasedFrom}
use Rattle.windows.proofs.Capacity.{capacity_small}
use Rattle.windows.proofs.FittingSets.{fitting_window, all_cycles_few}
use Rattle.windows.proofs.InsideSums.{total_none, total_next}
use Rattle.windows.proofs.StartSteps.{all_released, next_released, starts_here, starts_only}
use Rattle.job_rooms.specs.AddedCycles.{LeastSpare, room_of}
use Rattle.job_rooms.specs.Spares.{CanLower, Lowered, spare_to, LeastAmong}
use Rattle.job_rooms.specs.RoomArrays.{RoomArrays, due_in, CanSettle, Settled}
use Rattle.job_rooms.proofs.AddedCycles.{room_is_least_spare}

-- What stands for no window: more than any spare.
abbrev pub no_window : ℕ
no_window = 4_294_967_295

-- There is no window, or the spare is that of a window to an end from a bound before one.
abbrev pub Attained : (top : ℕ) → List Job → (bounds : List ℕ) → (before end spare : ℕ) → Type 0
Attained top jobs bounds before end spare =
    (spare ≡ no_window)
    ⊎ ((first : ℕ) × (first < before) × (cycles_inside jobs (bound_at bounds first) (bound_at bounds end) + spare ≡ (bound_at bounds end - bound_at bounds first) * top))

-- The least spare of the windows to an end from the releases before a bound, or that there is none.
pub record LeastTo (top : ℕ) (jobs : List Job) (bounds : List ℕ) (before end spare : ℕ) : Type 0 where
  pub lowest : (i : ℕ) → i < length jobs → (job_of jobs i).release < bound_at bounds before
      → cycles_inside jobs (job_of jobs i).release (bound_at bounds end) + spare ≤ (bound_at bounds end - (job_of jobs i).release) * top
  pub met : Attained top jobs bounds before end spare

-- The starts before a bound are taken.
pub record Taken (top : ℕ) (jobs : List Job) (bounds last cycles : List ℕ) (before : ℕ) (from : JobSet) (due spares rooms : List ℕ) : Type 0 where
  pub released : HasReleasedFrom jobs bounds from before
  pub due_size : length due ≡ max_bounds
  pub due_are : (b : ℕ) → get_or due b 0 ≡ due_in (length jobs) from last cycles b
  pub spares_size : length spares ≡ max_bounds
  pub spares_are : (end : ℕ) → before < end → end ≤ interval_count bounds → LeastTo top jobs bounds before end (get_or spares end 0)
  pub rooms_size : length rooms ≡ max_jobs
  pub rooms_are : (j : ℕ) → j < length jobs → (job_of jobs j).release < bound_at bounds before → LeastSpare top jobs j (get_or rooms j 0)

module _ {jobs : List Job} {bounds times cycles sets last : List ℕ} {count intervals : ℕ}
    (arrays : RoomArrays jobs bounds times cycles sets last count intervals)
    (top : ℕ) (slow : top ≤ max_frequency) (fits : earliest_overfull top jobs ≡ none) where
  abbrev release : ℕ → ℕ
  release j = (job_of jobs j).release

  abbrev deadline : ℕ → ℕ
  deadline j = (job_of jobs j).deadline

  cuts : Bounds jobs bounds
  cuts = arrays.tests.bounds-of

  counted : intervals ≡ interval_count bounds
  counted = arrays.tests.counted

  -- a job's deadline is a bound after its release
  own_window : (j : ℕ) → j < length jobs → release j < deadline j
  own_window = arrays.tests.valid.release_before_deadline

  end_below : (j : ℕ) → j < length jobs → get_or last j 0 < length bounds
  end_below j below =
      let (k, number, is) = cuts.deadline_found j below in
      omega (arith, number, arrays.ends_few j below, counted)

  fitting : (start end : ℕ) → cycles_inside jobs start end ≤ (end - start) * top
  fitting = fitting_window top jobs own_window fits

  -- no bound is late, and no window is large
  bound_early : (i : ℕ) → i < length bounds → bound_at bounds i ≤ max_deadline
  bound_early = (small-bounds cuts arrays.tests.valid arrays.tests.few bounds (take-length bounds)).last

  window_small : (start end : ℕ) → end < length bounds → (bound_at bounds end - start) * top ≤ max_deadline * max_frequency
  window_small start end below = capacity_small start (bound_at bounds end) top (bound_early end below) slow

  -- what the top frequency gives before each bound is small
  pub capacity_fits : 0 < count → (i : ℕ) → i ≤ intervals → get_or times i 0 * top < 2 ^ 32
  capacity_fits some i low =
      let (k, number, is) = cuts.deadline_found 0 (omega (arith, arrays.counted)) in
      let below : i < length bounds = omega (arith, counted, number) in
      rw (arrays.tests.times_are i below) (omega (arith, mul-le-mul (bound_early i below) slow))

  -- all jobs together have few cycles, and each is due at a bound
  pub all_few : sum count (numbers_in cycles) < 2 ^ 32
  all_few =
      rw arrays.counted
      (rw (sum_cong (length jobs) {f = numbers_in cycles} {g = λ j. (job_of jobs j).cycles} arrays.tests.cycles_are)
      (all_cycles_few top jobs arrays.tests.valid slow fits))

  pub ends_small : (j : ℕ) → j < count → numbers_in last j ≤ max_intervals
  ends_small j below = omega (arith, arrays.ends_few j (omega (arith, arrays.counted)), counted, arrays.tests.few)

  -- nothing is taken at the first bound
  pub taken_none : (due rooms : List ℕ) → length due ≡ max_bounds → ((b : ℕ) → numbers_in due b ≡ due_at count (numbers_in last) (numbers_in cycles) b)
      → length rooms ≡ max_jobs → Taken top jobs bounds last cycles 0 all_jobs due (replicate max_bounds no_window) rooms
  unfolding due_at due_in
  taken_none due rooms due_size due_are rooms_size =
      record {
        released = all_released arrays.tests top;
        due_size = due_size;
        due_are = λ b. due_are b ∙ rw arrays.counted (sum_cong (length jobs) (λ j below. rw (all_has j (omega (arith, arrays.tests.valid.few)))));
        spares_size = length-replicate {A = ℕ} max_bounds no_window;
        spares_are = λ end past inside.
            record {
              lowest = λ i below early. absurd (not_before i below early);
              met = inl (get_or-replicate max_bounds end no_window 0 (omega (arith, arrays.tests.few)));
            };
        rooms_size = rooms_size;
        rooms_are = λ j below early. absurd (not_before j below early);
      }
    where
      not_before : (j : ℕ) → j < length jobs → release j < bound_at bounds 0 → ⊥
      not_before j below early =
          let (k, number, is) = cuts.release_found j below in
          omega (arith, is, bounds_mono cuts 0 k (omega arith) number)

  -- a release before the next bound is at this bound or before it
  release_by : (start j : ℕ) → suc start < length bounds → j < length jobs → release j < bound_at bounds (suc start) → release j ≤ bound_at bounds start
  release_by start j inside below early =
      let (k, number, is) = cuts.release_found j below in
      let before = number_rises cuts k (suc start) number (omega (arith, is)) in
      omega (arith, is, bounds_mono cuts k start (omega arith) (omega arith))

  -- the bound that is a job's deadline, by its number
  end_number : (j b : ℕ) → j < length jobs → b < length bounds → eqb (get_or last j 0) b ≡ eqb (deadline j) (bound_at bounds b)
  end_number j b below inside = go (lt_or_le (get_or last j 0) b) (lt_or_le b (get_or last j 0))
    where
      is : bound_at bounds (get_or last j 0) ≡ deadline j
      is = arrays.ends_are j below

      go : (get_or last j 0 < b) ⊎ (b ≤ get_or last j 0) → (b < get_or last j 0) ⊎ (get_or last j 0 ≤ b)
          → eqb (get_or last j 0) b ≡ eqb (deadline j) (bound_at bounds b)
      go (inl less) _ =
          rw (
            ne_eqb (get_or last j 0) b (λ e. omega arith),
            ne_eqb (deadline j) (bound_at bounds b) (λ e. omega (arith, is, bounds_rise cuts (get_or last j 0) b less inside)),
          )
      go (inr _) (inl more) =
          rw (
            ne_eqb (get_or last j 0) b (λ e. omega arith),
            ne_eqb (deadline j) (bound_at bounds b) (λ e. omega (arith, is, bounds_rise cuts b (get_or last j 0) more (end_below j below))),
          )
      go (inr most) (inr least) =
          let same : get_or last j 0 ≡ b = omega arith in
          rw (eq-eqb (get_or last j 0) b same, eq-eqb (deadline j) (bound_at bounds b) (rw (← same) (sym is)))

  module _ (start : ℕ) (inside : start < intervals) (from : JobSet) (due spares rooms : List ℕ)
      (taken : Taken top jobs bounds last cycles start from due spares rooms) where
    abbrev here : JobSet
    here = in_both (set_in sets start) from

    abbrev later : JobSet
    later = in_first_only from (set_in sets start)

    next_inside : suc start < length bounds
    next_inside = omega (arith, counted)

    starts : (j : ℕ) → j < length jobs → is_member here j ≡ eqb (release j) (bound_at bounds start)
    starts = starts_here arrays.tests top start inside from taken.released

    -- the jobs released from the start on are those released there and those released later
    due_parts : (b : ℕ) → due_in (length jobs) from last cycles b ≡ due_in (length jobs) later last cycles b + due_in (length jobs) here last cycles b
    unfolding due_in
    due_parts b =
        sum_cong (length jobs) (λ j below. each (is_member from j) (is_member (set_in sets start) j) (is_member later j) (is_member here j) _ (less_has from (set_in sets start) j) (both_has (set_in sets start) from j))
        ∙ sum_add (length jobs) _ _
      where
        each : (f o l h : Bool) (w : ℕ) → l ≡ (f && not o) → h ≡ (o && f) → only_if f w ≡ only_if l w + only_if h w
        each true true l h w is_later is-here = rw (is_later, is-here) (omega arith)
        each true false l h w is_later is-here = rw (is_later, is-here) (omega arith)
        each false true l h w is_later is-here = rw (is_later, is-here) (omega arith)
        each false false l h w is_later is-here = rw (is_later, is-here) (omega arith)

    here_due : (b : ℕ) → due_in max_jobs here last cycles b ≡ due_in (length jobs) here last cycles b
    unfolding due_in
    here_due b = sum_shorter (length jobs) max_jobs _ arrays.tests.valid.few (λ j past within. rw (none j past))
      where
        none : (j : ℕ) → length jobs ≤ j → is_member here j ≡ false
        none j past = go (true_or_false (is_member here j))
          where
            go : (is_member here j ≡ true) ⊎ (is_member here j ≡ false) → is_member here j ≡ false
            go (inl has) = absurd (omega (arith, starts_only arrays.tests top start inside from taken.released j has))
            go (inr lacks) = lacks

    -- a start at which no job is released is passed over
    pub taken_over : is_empty here ≡ true → Taken top jobs bounds last cycles (suc start) later due spares rooms
    unfolding due_in
    taken_over empty =
        record {
          released = next_released arrays.tests top start inside from taken.released;
          due_size = taken.due_size;
          due_are = λ b. taken.due_are b ∙ due_parts b ∙ rw (no_due b) (omega arith);
          spares_size = taken.spares_size;
          spares_are = λ end past within.
              let least = taken.spares_are end (omega arith) within in
              record {
                lowest = λ i below early. least.lowest i below (earlier i below early);
                met = farther end (get_or spares end 0) least.met;
              };
          rooms_size = taken.rooms_size;
          rooms_are = λ j below early. taken.rooms_are j below (earlier j below early);
        }
      where
        no_due : (b : ℕ) → due_in (length jobs) here last cycles b ≡ 0
        no_due b = sum_zero (length jobs) (λ j below. rw (empty_has here empty j))

        -- no job is released at the start
        earlier : (j : ℕ) → j < length jobs → release j < bound_at bounds (suc start) → release j < bound_at bounds start
        earlier j below early = go (lt_or_le (release j) (bound_at bounds start))
          where
            go : (release j < bound_at bounds start) ⊎ (bound_at bounds start ≤ release j) → release j < bound_at bounds start
            go (inl less) = less
            go (inr most) =
                let same : release j ≡ bound_at bounds start = omega (arith, release_by start j next_inside below early) in
                absurd (true≢false (sym (eq-eqb (release j) (bound_at bounds start) same) ∙ sym (starts j below) ∙ empty_has here empty j))

        farther : (end spare : ℕ) → Attained top jobs bounds start end spare → Attained top jobs bounds (suc start) end spare
        farther end spare (inl absent) = inl absent
        farther end spare (inr (first, before, is)) = inr (first, omega arith, is)

    -- what the jobs inside the window from the start to an end need
    abbrev pub need : ℕ → ℕ
    need end = cycles_inside jobs (bound_at bounds start) (bound_at bounds end)

    -- it grows by what is due at the end
    need_grows : (end : ℕ) → start ≤ end → end < intervals → need (suc end) ≡ need end + get_or due (suc end) 0
    unfolding cycles_inside due_in
    need_grows end past below =
        total_next jobs (λ j. (job_of jobs j).cycles) (bound_at bounds start) (bound_at bounds end) (bound_at bounds (suc end))
        (bounds_rise cuts end (suc end) (omega arith) next) between
        ∙ rw (taken.due_are (suc end)) (ap (λ (n : ℕ). need end + n) (sum_cong (length jobs) each))
      where
        next : suc end < length bounds
        next = omega (arith, counted)

        between : (j : ℕ) → j < length jobs → deadline j ≤ bound_at bounds (suc end) → (deadline j ≤ bound_at bounds end) ⊎ (deadline j ≡ bound_at bounds (suc end))
        between j below high = go (lt_or_le end (get_or last j 0))
          where
            is : bound_at bounds (get_or last j 0) ≡ deadline j
            is = arrays.ends_are j below

            go : (end < get_or last j 0) ⊎ (get_or last j 0 ≤ end) → (deadline j ≤ bound_at bounds end) ⊎ (deadline j ≡ bound_at bounds (suc end))
            go (inl more) =
                let most = number_mono cuts (get_or last j 0) (suc end) (end_below j below) (omega (arith, is)) in
                let same : get_or last j 0 ≡ suc end = omega arith in
                inr (rw same at (sym is))
            go (inr less) = inl (omega (arith, is, bounds_mono cuts (get_or last j 0) end less (omega (arith, next))))

        each : (j : ℕ) → j < length jobs
            → only_if (eqb (deadline j) (bound_at bounds (suc end)) && leb (bound_at bounds start) (release j)) (job_of jobs j).cycles
            ≡ only_if (is_member from j) (only_if (eqb (get_or last j 0) (suc end)) (get_or cycles j 0))
        each j below =
            rw (taken.released j below, end_number j (suc end) below next, arrays.tests.cycles_are j below)
            (swap (eqb (deadline j) (bound_at bounds (suc end))) (leb (bound_at bounds start) (release j)) (job_of jobs j).cycles)
          where
            swap : (a b : Bool) (w : ℕ) → only_if (a && b) w ≡ only_if b (only_if a w)
            swap true true w = refl
            swap true false w = refl
            swap false true w = refl
            swap false false w = refl

    -- what the top frequency gives before each bound is in an array
    module _ (capacity : List ℕ) (capacity-are : (i : ℕ) → i ≤ intervals → get_or capacity i 0 ≡ get_or times i 0 * top) where
      capacity_at : (i : ℕ) → i ≤ interval_count bounds → i < length bounds → get_or capacity i 0 ≡ bound_at bounds i * top
      capacity_at i low below = rw (capacity-are i (omega (arith, counted)), arrays.tests.times_are i below)

      -- what it gives between the start and an end
      between_them : (end : ℕ) → start < end → end ≤ interval_count bounds
          → get_or capacity start 0 + (bound_at bounds end - bound_at bounds start) * top ≡ get_or capacity end 0
      between_them end past within =
          let later : bound_at bounds start + (bound_at bounds end - bound_at bounds start) ≡ bound_at bounds end = omega (arith, bounds_mono cuts start end (omega arith) (omega arith)) in
          rw (capacity_at start (omega arith) (omega arith), capacity_at end within (omega arith)) (omega (arith, ap (λ (n : ℕ). n * top) later))

      pub can_lower : CanLower need capacity due intervals start
      unfolding cycles_inside
      can_lower =
          record {
            few = omega (arith, counted, arrays.tests.few);
            inside = inside;
            need_none = total_none jobs (λ j. (job_of jobs j).cycles) (bound_at bounds start) arrays.tests.valid;
            need_next = need_grows;
            fits = λ end past below.
                omega (arith, between_them end past (omega (arith, counted)), fitting (bound_at bounds start) (bound_at bounds end));
            small = λ end below.
                rw (capacity_at end (omega (arith, counted)) (omega (arith, counted, next_inside)))
                (omega (arith, mul-le-mul (bound_early end (omega (arith, counted, next_inside))) slow));
          }

    pub can-settle : CanSettle here last cycles intervals due
    can-settle =
        record {
          few = omega (arith, counted, arrays.tests.few);
          ends_few = λ j has. arrays.ends_few j (only j has);
          cycles_small = λ j has. rw (arrays.tests.cycles_are j (only j has)) (one_few j (only j has));
          due_holds = λ b. rw (here_due b) (omega (arith, taken.due_are b, due_parts b));
        }
      where
        only : (j : ℕ) → is_member here j ≡ true → j < length jobs
        only = starts_only arrays.tests top start inside from taken.released

        one_few : (j : ℕ) → j < length jobs → (job_of jobs j).cycles < 2 ^ 32
        one_few j below = omega (arith, sum_term (length jobs) (λ j. (job_of jobs j).cycles) j below, all_cycles_few top jobs arrays.tests.valid slow fits)

    -- a start at which jobs are released is taken
    module _ (capacity : List ℕ) (capacity-are : (i : ℕ) → i ≤ intervals → get_or capacity i 0 ≡ get_or times i 0 * top) (lowered : List ℕ)
        (is-lowered : Lowered need capacity intervals start spares lowered) where
      -- the spare of the window from the start to an end
      own_spare : (end : ℕ) → start < end → end ≤ interval_count bounds
          → cycles_inside jobs (bound_at bounds start) (bound_at bounds end) + spare_to need capacity start end
          ≡ (bound_at bounds end - bound_at bounds start) * top
      own_spare end past within =
          omega (arith, between_them capacity capacity-are end past within, fitting (bound_at bounds start) (bound_at bounds end))

      own_small : (end : ℕ) → start < end → end ≤ interval_count bounds → spare_to need capacity start end < no_window
      own_small end past within = omega (arith, own_spare end past within, window_small (bound_at bounds start) end (omega arith))

      lowered_is : (end : ℕ) → start < end → end ≤ interval_count bounds
          → get_or lowered end 0 ≡ min (get_or spares end 0) (spare_to need capacity start end)
      lowered_is end past within = is-lowered.lowered end past (omega (arith, counted))

      -- the least spare of each end, with that of the window from the start
      least_to : (end : ℕ) → start < end → end ≤ interval_count bounds → LeastTo top jobs bounds (suc start) end (get_or lowered end 0)
      least_to end past within =
          record { lowest = λ i below early. low i below (release_by start i next_inside below early) (lt_or_le (release i) (bound_at bounds start)); met = met (lt_or_le (get_or spares end 0) (spare_to need capacity start end)) }
        where
          old : LeastTo top jobs bounds start end (get_or spares end 0)
          old = taken.spares_are end past within

          low : (i : ℕ) → i < length jobs → release i ≤ bound_at bounds start → (release i < bound_at bounds start) ⊎ (bound_at bounds start ≤ release i)
              → cycles_inside jobs (release i) (bound_at bounds end) + get_or lowered end 0 ≤ (bound_at bounds end - release i) * top
          low i below by (inl before) = omega (arith, old.lowest i below before, lowered_is end past within)
          low i below by (inr at) =
              let same : release i ≡ bound_at bounds start = omega arith in
              rw same (omega (arith, own_spare end past within, lowered_is end past within))

          met : (get_or spares end 0 < spare_to need capacity start end) ⊎ (spare_to need capacity start end ≤ get_or spares end 0)
              → Attained top jobs bounds (suc start) end (get_or lowered end 0)
          met (inl less) = go old.met
            where
              stays : get_or lowered end 0 ≡ get_or spares end 0
              stays = omega (arith, lowered_is end past within)

              go : Attained top jobs bounds start end (get_or spares end 0) → Attained top jobs bounds (suc start) end (get_or lowered end 0)
              go (inl absent) = absurd (omega (arith, own_small end past within))
              go (inr (first, before, is)) = inr (first, omega arith, rw stays is)
          met (inr more) =
              let stored : get_or lowered end 0 ≡ spare_to need capacity start end = omega (arith, lowered_is end past within) in
              inr (start, omega arith, rw stored (own_spare end past within))

      -- the room of a job released at the start
      settled_room : (j room : ℕ) → j < length jobs → release j ≡ bound_at bounds start → LeastAmong lowered (get_or last j 0) intervals room
          → LeastSpare top jobs j room
      settled_room j room below starts-there least =
          record { lowest = low; met = attained least.met }
        where
          after : (end : ℕ) → get_or last j 0 ≤ end → start < end
          after end most =
              let later-end = number_rises cuts start (get_or last j 0) (omega (arith, next_inside)) (omega (arith, own_window j below, arrays.ends_are j below)) in
              omega arith

          low : (i k : ℕ) → i < length jobs → k < length jobs → release i ≤ release j → deadline j ≤ deadline k
              → cycles_inside jobs (release i) (deadline k) + room ≤ (deadline k - release i) * top
          low i k i-below k-below from-before to-after =
              let end = get_or last k 0 in
              let is = arrays.ends_are k k-below in
              let most = number_mono cuts (get_or last j 0) (get_or last k 0) (end_below j below) (omega (arith, arrays.ends_are j below, is)) in
              let within : get_or last k 0 ≤ interval_count bounds = omega (arith, arrays.ends_few k k-below, counted) in
              let law =
              (least_to (get_or last k 0) (after (get_or last k 0) most) within).lowest i i-below
              (omega (arith, bounds_rise cuts start (suc start) (omega arith) next_inside)) in
              omega (arith, rw is at law, least.lowest (get_or last k 0) most (arrays.ends_few k k-below))

          attained : (end : ℕ) × (get_or last j 0 ≤ end) × (end ≤ intervals) × (get_or lowered end 0 ≡ room)
              → (first final : ℕ) × (first ≤ release j) × (deadline j ≤ final) × (cycles_inside jobs first final + room ≡ (final - first) * top)
          attained (end, from_end, to_end, is) = go (least_to end (after end from_end) (omega (arith, counted))).met
            where
              go : Attained top jobs bounds (suc start) end (get_or lowered end 0)
                  → (first final : ℕ) × (first ≤ release j) × (deadline j ≤ final) × (cycles_inside jobs first final + room ≡ (final - first) * top)
              go (inl absent) =
                  absurd (omega (
                    arith,
                    absent,
                    lowered_is end (after end from_end) (omega (arith, counted)),
                    own_small end (after end from_end) (omega (arith, counted)),
                  ))
              go (inr (first, before, meets)) = (
                bound_at bounds first,
                bound_at bounds end,
                omega (arith, starts-there, bounds_mono cuts first start (omega arith) (omega (arith, next_inside))),
                omega (arith, arrays.ends_are j below, bounds_mono cuts (get_or last j 0) end from_end (omega (arith, counted, next_inside))),
                rw is at meets,
              )

      module _ (due_after rooms_after : List ℕ) (settled : Settled here last cycles intervals lowered due rooms due_after rooms_after) where
        pub taken_on : Taken top jobs bounds last cycles (suc start) later due_after lowered rooms_after
        taken_on =
            record {
              released = next_released arrays.tests top start inside from taken.released;
              due_size = settled.due_size;
              due_are = λ b. omega (arith, settled.due_left b, here_due b, taken.due_are b, due_parts b);
              spares_size = is-lowered.size ∙ taken.spares_size;
              spares_are = λ end past within. least_to end (omega arith) within;
              rooms_size = settled.rooms_size;
              rooms_are = λ j below early. room j below (release_by start j next_inside below early) (lt_or_le (release j) (bound_at bounds start));
            }
          where
            room : (j : ℕ) → j < length jobs → release j ≤ bound_at bounds start → (release j < bound_at bounds start) ⊎ (bound_at bounds start ≤ release j)
                → LeastSpare top jobs j (get_or rooms_after j 0)
            room j below by (inl before) =
                rw (settled.kept j (starts j below ∙ ne_eqb (release j) (bound_at bounds start) (λ e. omega arith))) (taken.rooms_are j below before)
            room j below by (inr at) =
                let same : release j ≡ bound_at bounds start = omega arith in
                settled_room j (get_or rooms_after j 0) below same (settled.settled j (starts j below ∙ eq-eqb (release j) (bound_at bounds start) same))

  -- all starts are taken
  pub taken_all : (start : ℕ) (from : JobSet) (due spares rooms : List ℕ) → start ≡ intervals → Taken top jobs bounds last cycles start from due spares rooms
      → (j : ℕ) → j < length jobs → get_or rooms j 0 ≡ room_of top jobs j
  taken_all start from due spares rooms whole taken j below =
      sym (room_is_least_spare top jobs (record { ordered = own_window; some-cycles = arrays.tests.valid.cycles_low }) fits j below (get_or rooms j 0)
      (taken.rooms_are j below
      (omega (
        arith,
        own_window j below,
        arrays.ends_are j below,
        bounds_mono cuts (get_or last j 0) start (omega (arith, arrays.ends_few j below)) (omega (arith, counted, end_below j below)),
      ))))
