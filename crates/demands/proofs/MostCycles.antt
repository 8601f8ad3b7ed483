-- The room of a job is the most cycles that can be added to it, in the user's words: with schedules over the levels, and for every job list that
-- has the added cycles. There is one such number only.
-- Assumes nothing.
use mathlib.Core.Path.{◌≡◌, refl, sym, ◌∙◌, ap}
use mathlib.Core.Logic.{◌⊎◌, inl, inr}
use mathlib.Core.List.{List}
use mathlib.Core.Option.{Option, none, some}
use Prim.Native.Nat.{ℕ, ◌-◌, ◌*◌, ◌<◌, ◌≤◌}
use native.Mathlib.Decide.{ℕ_discrete}
use native.Mathlib.Omega.{arith}
use lib.ListN.{length}
use lib.Seq.{ext_get_or}
use Rattle.model.specs.declared.Job.{Job}
use Rattle.model.specs.Jobs.{job_of, no_job, ValidJobs}
use Rattle.model.specs.Processors.{ValidProcessor, top_of}
use Rattle.model.specs.Sites.{Tables}
use Rattle.model.specs.Windows.{Window, cycles_inside, earliest_overfull}
use Rattle.model.specs.Schedules.{Schedule, Serves}
use Rattle.model.proofs.Numbers.{lt_or_le}
use Rattle.model.proofs.LeastEnergy.{overfull_never_served}
use Rattle.model.proofs.Windows.{overfull_iff, earliest_overfull_found}
use Rattle.windows.proofs.FittingSets.{fitting_window}
use Rattle.feasibility.proofs.Feasible.{fitting_is_served}
use Rattle.job_rooms.specs.AddedCycles.{with_added, room_of, SoundJobs, MostAdded}
use Rattle.job_rooms.proofs.AddedCycles.{added_length, added_here, added_other, added_window, added_ordered, room_is_most}
use Rattle.demands.specs.NearestToTrouble.{Lengthened, StillFits, MadeOverfull, MostCycles}

-- a job list with cycles added to one job
module _ (jobs : List Job) (job added : ℕ) where
  pub added_lengthens : job < length jobs → Lengthened jobs (with_added jobs job added) job added
  added_lengthens below =
      record {
        as_many = added_length jobs job added below;
        is_job = below;
        same_windows = λ j inside. added_window jobs job added below j;
        with-added = ap (λ (one : Job). one.cycles) (added_here jobs job added below);
        others_stay = λ j inside other. ap (λ (one : Job). one.cycles) (added_other jobs job added below j other);
      }

  -- there is no other
  pub lengthened_is : (longer : List Job) → Lengthened jobs longer job added → longer ≡ with_added jobs job added
  lengthened_is longer law =
      let below = law.is_job in
      ext_get_or no_job longer (with_added jobs job added) (law.as_many ∙ sym (added_length jobs job added below))
      (λ j inside. same j (rw law.as_many at inside) (ℕ_discrete j job))
    where
      build : (one two : Job) → one.release ≡ two.release → one.deadline ≡ two.deadline → one.cycles ≡ two.cycles → one ≡ two
      build one two a b c = λ k. record { release = a k; deadline = b k; cycles = c k }

      same : (j : ℕ) → j < length jobs → Dec (j ≡ job) → job_of longer j ≡ job_of (with_added jobs job added) j
      same j inside (yes e) =
          rw e
          (build _ _
          ((law.same_windows job law.is_job).0 ∙ sym (added_window jobs job added law.is_job job).0)
          ((law.same_windows job law.is_job).1 ∙ sym (added_window jobs job added law.is_job job).1)
          (law.with-added ∙ sym (ap (λ (one : Job). one.cycles) (added_here jobs job added law.is_job))))
      same j inside (no other) =
          build _ _ (law.same_windows j inside).0 (law.same_windows j inside).1 (law.others_stay j inside other)
          ∙ sym (added_other jobs job added law.is_job j other)

-- tables that were read
module _ (tables : Tables) (processor : ValidProcessor tables.processor) (valid : ValidJobs tables.jobs) where
  abbrev jobs : List Job
  jobs = tables.jobs

  abbrev top : ℕ
  top = top_of tables.processor

  some_levels : (1 ≤ length tables.processor.levels) × (1 ≤ top)
  some_levels =
      let last : length tables.processor.levels - 1 < length tables.processor.levels = omega (arith, processor.levels.some) in
      (processor.levels.some, processor.levels.frequency_low (length tables.processor.levels - 1) last)

  -- a list of the same windows
  module _ (longer : List Job) (ordered : (j : ℕ) → j < length longer → (job_of longer j).release < (job_of longer j).deadline) where
    pub fits_still : earliest_overfull top longer ≡ none → StillFits tables longer
    fits_still fits =
        record {
          no-window = fitting_window top longer ordered fits;
          some_schedule = fitting_is_served tables.processor.levels some_levels.0 some_levels.1 longer ordered fits;
        }

    pub never_served : (start end : ℕ) → (end - start) * top < cycles_inside longer start end
        → (schedule : Schedule tables.processor.levels longer) → Serves schedule → ⊥
    never_served start end more =
        overfull_never_served tables.processor.idle_power tables.processor.levels longer
        (record { rising = processor.rising; ordered = ordered }) start end ((overfull_iff top longer start end).1 more)

    pub made_overfull : (w : Window) → earliest_overfull top longer ≡ some w → MadeOverfull tables longer
    made_overfull w found =
        let law = earliest_overfull_found top longer w found in
        let (i, i-below, starts) = law.release in
        let (k, k-below, ends) = law.deadline in
        let more = (overfull_iff top longer w.start w.end).0 law.overfull in
        record {
          a_window = (i, k, i-below, k-below, rw (starts, ends) law.later, rw (starts, ends) more);
          no_schedule = never_served w.start w.end more;
        }

  sound : SoundJobs jobs
  sound = record { ordered = valid.release_before_deadline; some-cycles = valid.cycles_low }

  -- the room of a job of a fitting set is the most that can be added to it
  pub room_most : earliest_overfull top jobs ≡ none → (j : ℕ) → j < length jobs → MostCycles tables j (room_of top jobs j)
  room_most fits j below =
      record {
        can_be_added = λ added few longer law.
            rw (lengthened_is jobs j added longer law)
            (fits_still (with_added jobs j added) (added_ordered jobs j added below valid.release_before_deadline) (most.still_fits added few));
        one_more = λ added more longer law.
            let (w, found) = most.then_overfull added more in
            rw (lengthened_is jobs j added longer law)
            (made_overfull (with_added jobs j added) (added_ordered jobs j added below valid.release_before_deadline) w found);
        such_a_set = λ added. (with_added jobs j added, added_lengthens jobs j added below);
      }
    where
      most : MostAdded top jobs j (room_of top jobs j)
      most = room_is_most top jobs sound fits j below

-- there is one such number only
pub most_one : (tables : Tables) (j one two : ℕ) → MostCycles tables j one → MostCycles tables j two → one ≡ two
most_one tables j one two a b = go (lt_or_le one two) (lt_or_le two one)
  where
    never : (few many : ℕ) → MostCycles tables j few → MostCycles tables j many → few < many → ⊥
    never few many small large less =
        let (longer, law) = large.such_a_set many in
        let (schedule, serves) = (large.can_be_added many (omega arith) longer law).some_schedule in
        (small.one_more many less longer law).no_schedule schedule serves

    go : (one < two) ⊎ (two ≤ one) → (two < one) ⊎ (one ≤ two) → one ≡ two
    go (inl less) _ = absurd (never one two a b less)
    go (inr _) (inl less) = absurd (never two one b a less)
    go (inr most) (inr least) = omega arith

-- a set to one of whose jobs something, or nothing, can be added fits
pub most_fits : (tables : Tables) (j most : ℕ) → j < length tables.jobs → MostCycles tables j most
    → earliest_overfull (top_of tables.processor) tables.jobs ≡ none
most_fits tables j most below law = go (earliest_overfull (top_of tables.processor) tables.jobs) refl
  where
    itself : Lengthened tables.jobs tables.jobs j 0
    itself =
        record {
          as_many = refl;
          is_job = below;
          same_windows = λ i inside. (refl, refl);
          with-added = omega arith;
          others_stay = λ i inside other. refl;
        }

    go : (found : Option Window) → earliest_overfull (top_of tables.processor) tables.jobs ≡ found → found ≡ none
    go none e = refl
    go (some w) e =
        let full = (overfull_iff (top_of tables.processor) tables.jobs w.start w.end).0 (earliest_overfull_found (top_of tables.processor) tables.jobs w e).overfull in
        absurd (omega (arith, full, (law.can_be_added 0 (omega arith) tables.jobs itself).no-window w.start w.end))
