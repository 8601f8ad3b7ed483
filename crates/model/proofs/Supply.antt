-- What the slots of a schedule supply, by interval and by job: a slot runs one job, all that a job is served is supplied
-- in intervals where it is open, and what all jobs are supplied in an interval are the frequencies of its slots.
-- Assumes nothing.
use mathlib.Core.Path.{◌≡◌, refl, ◌∙◌}
use mathlib.Core.Bool.{Bool, true, ◌&&◌}
use mathlib.Core.List.{List}
use Prim.Native.Nat.{ℕ, ◌+◌, ◌*◌, ◌<◌, ◌≤◌}
use native.Mathlib.Omega.{arith}
use lib.ListN.{length}
use lib.Dec.{ltb, leb}
use borrow.Author.Tests.{ltb-true, leb-true}
use Rattle.model.specs.declared.Level.{Level}
use Rattle.model.specs.declared.Job.{Job}
use Rattle.model.specs.Sum.{sum, only_if}
use Rattle.model.specs.Levels.{level_of}
use Rattle.model.specs.Jobs.{job_of}
use Rattle.model.specs.Intervals.{Bounds, interval_count, length_of, is_open}
use Rattle.model.specs.Schedules.{Slot, idles, runs, IsGiven, frequency_for, Schedule, tick_of, served}
use Rattle.model.proofs.Numbers.{both_true}
use Rattle.model.proofs.Sum.{sum_zero, sum_mono, sum_cong, sum_swap, sum_hit}
use Rattle.model.proofs.SumMore.{only_if_mono, sum_only_if}
use Rattle.model.proofs.Intervals.{tick_open}
use Rattle.model.proofs.SlotsOfBounds.{first_slot, sum_of_slots, slot_below, slot_tick}

-- The tick of a slot lies between a job's release and its deadline.
abbrev pub is_in_time : {levels : List Level} {jobs : List Job} → Schedule levels jobs → (job slot : ℕ) → Bool
is_in_time {jobs = jobs} schedule j s = leb (job_of jobs j).release (tick_of schedule s) && ltb (tick_of schedule s) (job_of jobs j).deadline

-- A slot's frequency, whichever job it runs.
abbrev pub slot_frequency : List Level → Slot → ℕ
slot_frequency levels idles = 0
slot_frequency levels (runs level job) = (level_of levels level).frequency

-- a slot runs one job
pub frequency_by_job : (levels : List Level) (jobs : List Job) (slot : Slot) → IsGiven levels jobs slot
    → sum (length jobs) (λ j. frequency_for levels j slot) ≡ slot_frequency levels slot
frequency_by_job levels jobs idles given = sum_zero (length jobs) (λ j below. refl)
frequency_by_job levels jobs (runs level job) given = sum_hit (length jobs) job (λ j. (level_of levels level).frequency) given.1

module _ {levels : List Level} {jobs : List Job} (schedule : Schedule levels jobs) (bounds : List ℕ) where
  -- Slot u of an interval.
  abbrev pub slot_in : (interval u : ℕ) → Slot
  slot_in i u = schedule.slot (first_slot schedule.q bounds i + u)

  -- The frequencies of a job's slots in an interval, added.
  unfoldable pub supplied : (interval job : ℕ) → ℕ
  supplied i j = sum (schedule.q * length_of bounds i) (λ u. frequency_for levels j (slot_in i u))

  module _ (B : Bounds jobs bounds) where
    pub given-in : (i u : ℕ) → i < interval_count bounds → u < schedule.q * length_of bounds i → IsGiven levels jobs (slot_in i u)
    given-in i u inside below = schedule.given (first_slot schedule.q bounds i + u) (slot_below B schedule.q i u inside below)

    -- a job with a slot of an interval between its release and its deadline is open in that interval
    open_in_time : (i u j : ℕ) → i < interval_count bounds → u < schedule.q * length_of bounds i → j < length jobs
        → is_in_time schedule j (first_slot schedule.q bounds i + u) ≡ true → is_open bounds (job_of jobs j) i ≡ true
    open_in_time i u j inside below job e =
        let tick : ℕ = tick_of schedule (first_slot schedule.q bounds i + u) in
        let place = slot_tick B schedule.q i u inside below schedule.q_low in
        let window = both_true (leb (job_of jobs j).release tick) (ltb tick (job_of jobs j).deadline) e in
        (tick_open B i j tick inside job (omega (arith, B.first, place.0)) (omega (arith, B.first, place.1))).0
        (leb-true _ _ window.0, ltb-true _ _ window.1)

    -- what a schedule serves a job is supplied in intervals where the job is open
    pub served_where_open : (j : ℕ) → j < length jobs
        → served schedule j ≤ sum (interval_count bounds) (λ i. only_if (is_open bounds (job_of jobs j) i) (supplied i j))
    unfolding served supplied
    served_where_open j job =
        rw (sum_of_slots B schedule.q (λ s. only_if (is_in_time schedule j s) (frequency_for levels j (schedule.slot s))))
        (sum_mono (interval_count bounds) (λ i inside.
        rw (← sum_only_if (schedule.q * length_of bounds i) (is_open bounds (job_of jobs j) i) (λ u. frequency_for levels j (slot_in i u)))
        (sum_mono (schedule.q * length_of bounds i) (λ u below.
        only_if_mono _ _ (frequency_for levels j (slot_in i u)) (open_in_time i u j inside below job)))))

    -- what all jobs are supplied in an interval are the frequencies of its slots
    pub supplied_together : (i : ℕ) → i < interval_count bounds
        → sum (length jobs) (supplied i) ≡ sum (schedule.q * length_of bounds i) (λ u. slot_frequency levels (slot_in i u))
    unfolding supplied
    supplied_together i inside =
        sum_swap (length jobs) (schedule.q * length_of bounds i) (λ j u. frequency_for levels j (slot_in i u))
        ∙ sum_cong (schedule.q * length_of bounds i) (λ u below. frequency_by_job levels jobs (slot_in i u) (given-in i u inside below))
