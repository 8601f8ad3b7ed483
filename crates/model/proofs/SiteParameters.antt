-- Laws of altered tables: when parameters alter a table and what then comes out, that it is a valid table, and that the full count of
-- running levels with 0 and 0 alters nothing.
-- Assumes nothing.
use mathlib.Core.Path.{◌≡◌, refl, sym, ◌∙◌, ap, ap₂}
use mathlib.Core.Bool.{true, false, not, cond, ◌||◌, ◌&&◌}
use mathlib.Core.Logic.{◌↔◌, ◌⊎◌, inl, inr}
use mathlib.Core.List.{List, [], ◌∷◌, map}
use Prim.Native.Nat.{ℕ, suc, ◌+◌, ◌-◌, ◌*◌, ◌<◌, ◌≤◌}
use native.Mathlib.Nat.{div-mul-le_self, lt-div-mul-add}
use native.Mathlib.Omega.{arith}
use lib.ListN.{length, take, drop, length-map}
use lib.Dec.{leb, eqb}
use lib.Seq.{length-take-le, take_all, get_or-take, take-add, drop_at, ext_get_or}
use borrow.Author.Tests.{ltb-false, leb-false, le-ltb, le-leb, lt-leb}
use Rattle.model.specs.declared.Level.{Level}
use Rattle.model.specs.declared.Job.{Job}
use Rattle.model.specs.Limits.{max_cycles, max_free, max_margin}
use Rattle.model.specs.Outcome.{Outcome, answer, refuse_when}
use Rattle.model.specs.Levels.{idling, level_of, ValidLevels}
use Rattle.model.specs.LevelTables.{idle_entries, idle_power_of, running_levels, ValidLevelTable}
use Rattle.model.specs.Jobs.{no_job, job_of, ValidJobs}
use Rattle.model.specs.SiteParameters.{wrong_highest, levels_up_to, alter_levels, wrong_free, wrong_margin, margin_on, altered_job, is_emptied, has_too_many_cycles, altered_fault, alter_jobs}
use Rattle.model.specs.SiteParameters.{AlteredLevels, LevelsAltered, AlteredJob, AlteredJobs, JobsAltered, AlteredAreValid, FullCountAltersNothing}
use Rattle.model.specs.Processors.{Processor, processor_of, processor_up_to}
use Rattle.model.proofs.Numbers.{true_or_false}
use Rattle.model.proofs.Outcome.{answer_injective, answered_past, by_entry_answered, by_entry_passes}
use Rattle.model.proofs.Tests.{neither, in-range, fault_when}
use Rattle.model.proofs.Joined.{get_d_map}
use Rattle.model.proofs.LevelTables.{running_length}

-- The first levels of a valid list are one.
valid_first : (levels : List Level) (count : ℕ) → 1 ≤ count → count ≤ length levels → ValidLevels levels → ValidLevels (take count levels)
valid_first levels count some upto valid =
    record {
      some = rw many some;
      few = rw many (omega (arith, valid.few));
      frequency_low = λ i below. rw (at i (inside i below)) (valid.frequency_low i (given i below));
      frequency_high = λ i below. rw (at i (inside i below)) (valid.frequency_high i (given i below));
      frequency_rises = λ i below.
          rw (at i (omega (arith, inside (suc i) below)), at (suc i) (inside (suc i) below)) (valid.frequency_rises i (given (suc i) below));
      voltage_low = λ i below. rw (at i (inside i below)) (valid.voltage_low i (given i below));
      voltage_high = λ i below. rw (at i (inside i below)) (valid.voltage_high i (given i below));
      voltage_never_falls = λ i below.
          rw (at i (omega (arith, inside (suc i) below)), at (suc i) (inside (suc i) below)) (valid.voltage_never_falls i (given (suc i) below));
    }
  where
    many : length (take count levels) ≡ count
    many = length-take-le count levels upto

    inside : (i : ℕ) → i < length (take count levels) → i < count
    inside i below = rw many at below

    given : (i : ℕ) → i < length (take count levels) → i < length levels
    given i below = omega (arith, inside i below, upto)

    at : (i : ℕ) → i < count → level_of (take count levels) i ≡ level_of levels i
    at i below = get_or-take count levels i idling below

-- a table up to a running level that it has
module _ (highest : ℕ) (entries : List Level) (low : 1 ≤ highest) (high : highest ≤ length (running_levels entries)) where
  first_kept : level_of (levels_up_to highest entries) 0 ≡ level_of entries 0
  first_kept = get_or-take (idle_entries entries + highest) entries 0 idling (omega arith)

  pub idle_kept : idle_entries (levels_up_to highest entries) ≡ idle_entries entries
  idle_kept = ap (λ (level : Level). cond (eqb level.frequency 0) 1 0) first_kept

  draw_kept : idle_power_of (levels_up_to highest entries) ≡ idle_power_of entries
  draw_kept = ap (λ (level : Level). cond (eqb level.frequency 0) (1_000 * level.voltage) 0) first_kept

  enough : idle_entries entries + highest ≤ length entries
  enough = omega (arith, running_length entries)

  running_kept : running_levels (levels_up_to highest entries) ≡ take highest (running_levels entries)
  running_kept =
      let idle : ℕ = idle_entries entries in
      ap (λ (n : ℕ). drop n (levels_up_to highest entries)) idle_kept
      ∙ ap (drop idle) (take-add idle highest entries)
      ∙ drop_at (take idle entries) (take highest (drop idle entries)) idle (length-take-le idle entries (omega (arith, enough)))

  up_to_valid : ValidLevelTable entries → ValidLevelTable (levels_up_to highest entries)
  up_to_valid valid =
      record {
        few = omega (arith, length-take-le (idle_entries entries + highest) entries enough, enough, valid.few);
        running = rw running_kept (valid_first (running_levels entries) highest low high valid.running);
        draw_low = rw (running_kept, draw_kept, get_or-take highest (running_levels entries) 0 idling low) valid.draw_low;
      }

pub levels_altered : LevelsAltered
unfolding alter_levels
levels_altered highest entries levels = (forth, back)
  where
    forth : alter_levels highest entries ≡ answer levels → AlteredLevels highest entries levels
    forth e =
        let (ranged, e) = answered_past (wrong_highest entries highest) 35 _ e in
        let (low, high) = in-range highest (length (running_levels entries)) ranged in
        rw (← answer_injective e)
        (record {
          highest_low = low;
          highest_high = high;
          same_idling = draw_kept highest entries low high;
          first_running = running_kept highest entries low high;
          entries_are = refl;
        })

    back : AlteredLevels highest entries levels → alter_levels highest entries ≡ answer levels
    back h =
        rw (le-leb 1 highest h.highest_low, le-leb highest (length (running_levels entries)) h.highest_high)
        (ap answer (sym h.entries_are))

-- Of a level table only its processor bears on what a limit makes of it.
abbrev limited : (highest : ℕ) → Processor → Outcome Processor
limited highest processor =
    refuse_when (not (leb 1 highest && leb highest (length processor.levels))) 35
    (answer (record { idle_power = processor.idle_power; levels = take highest processor.levels }))

up_to_limited : (highest : ℕ) (entries : List Level) → processor_up_to highest entries ≡ limited highest (processor_of entries)
unfolding alter_levels
up_to_limited highest entries = go (true_or_false (wrong_highest entries highest))
  where
    go : (wrong_highest entries highest ≡ true) ⊎ (wrong_highest entries highest ≡ false) → processor_up_to highest entries ≡ limited highest (processor_of entries)
    go (inl wrong) = rw wrong
    go (inr ranged) =
        let (low, high) = in-range highest (length (running_levels entries)) ranged in
        rw (ranged, draw_kept highest entries low high, running_kept highest entries low high)

pub same_up_to : (one two : List Level) → processor_of one ≡ processor_of two → (highest : ℕ) → processor_up_to highest one ≡ processor_up_to highest two
same_up_to one two same highest = up_to_limited highest one ∙ ap (limited highest) same ∙ sym (up_to_limited highest two)

-- The margin on cycles is the least whole number that is not below it.
pub margin_rounded : (margin cycles : ℕ)
    → (margin * cycles ≤ 100 * margin_on margin cycles) × (100 * margin_on margin cycles < margin * cycles + 100)
unfolding margin_on
margin_rounded margin cycles =
    let part : ℕ = margin * cycles in
    let under = div-mul-le_self (part + 99) 100 in
    let over = lt-div-mul-add {a = part + 99} {b = 100} (omega arith) in
    (omega (arith, under, over), omega (arith, under, over))

-- a job has no fault exactly when its window is not emptied and its cycles keep the limit
pub altered_sound : (job : Job) → (altered_fault job ≡ 0) ↔ ((job.release < job.deadline) × (job.cycles ≤ max_cycles))
unfolding altered_fault
altered_sound job = (fault_when (is_emptied job || has_too_many_cycles job) 35 law).sound
  where
    law : ((is_emptied job || has_too_many_cycles job) ≡ false) ↔ ((job.release < job.deadline) × (job.cycles ≤ max_cycles))
    law = (
      λ e. let (window, cycles) = neither (is_emptied job) _ e in (leb-false _ _ window, ltb-false _ _ cycles),
      λ h. rw (lt-leb _ _ h.0, le-ltb _ _ h.1),
    )

module _ (free margin : ℕ) where
  one_altered : (job : Job) → altered_fault (altered_job free margin job) ≡ 0 → AlteredJob free margin job (altered_job free margin job)
  unfolding altered_job
  one_altered job sound =
      let (window, cycles) = (altered_sound (altered_job free margin job)).0 sound in
      let (whole, least) = margin_rounded margin job.cycles in
      record {
        same_release = refl;
        deadline_earlier = omega (arith, window);
        margin_whole = omega (arith, whole);
        margin_least = omega (arith, least);
        window_left = window;
        cycles_high = cycles;
      }

  -- the fields of an altered job, without the limits that it keeps
  record SameFields (given altered : Job) : Type 0 where
    same_release : altered.release ≡ given.release
    deadline_earlier : given.deadline - free ≡ altered.deadline
    margin_whole : 100 * given.cycles + margin * given.cycles ≤ 100 * altered.cycles
    margin_least : 100 * altered.cycles < 100 * given.cycles + margin * given.cycles + 100

  -- no other job is what is asked of an altered one
  altered_fields : {given altered : Job} → SameFields given altered → altered_job free margin given ≡ altered
  unfolding altered_job
  altered_fields {given} {altered} h =
      let (whole, least) = margin_rounded margin given.cycles in
      let cycles : given.cycles + margin_on margin given.cycles ≡ altered.cycles =
      omega (arith, whole, least, h.margin_whole, h.margin_least) in
      rw (← h.same_release, h.deadline_earlier, cycles)

  altered_only : {given altered : Job} → AlteredJob free margin given altered → altered_job free margin given ≡ altered
  altered_only h =
      altered_fields
      (record {
        same_release = h.same_release;
        deadline_earlier = omega (arith, h.deadline_earlier);
        margin_whole = h.margin_whole;
        margin_least = h.margin_least;
      })

  module _ (jobs : List Job) where
    pub altered-at : (j : ℕ) → j < length jobs → job_of (map (altered_job free margin) jobs) j ≡ altered_job free margin (job_of jobs j)
    altered-at j below = get_d_map (altered_job free margin) jobs j no_job no_job below

    altered_forth : (altered : List Job) → alter_jobs free margin jobs ≡ answer altered → AlteredJobs free margin jobs altered
    unfolding alter_jobs
    altered_forth altered e =
        let (ranged, e) = answered_past (wrong_free free || wrong_margin margin) 35 _ e in
        let (free-ranged, margin-ranged) = neither (wrong_free free) _ ranged in
        let (sound, e) = by_entry_answered _ _ (length jobs) e in
        rw (← answer_injective e)
        (record {
          free_high = ltb-false max_free free free-ranged;
          margin_high = ltb-false max_margin margin margin-ranged;
          as_many = length-map jobs (altered_job free margin);
          each = λ j below. rw (altered-at j below) (one_altered (job_of jobs j) (rw (altered-at j below) at (sound j below)));
        })

    pub altered_map : {altered : List Job} → AlteredJobs free margin jobs altered → map (altered_job free margin) jobs ≡ altered
    altered_map {altered} h =
        ext_get_or no_job (map (altered_job free margin) jobs) altered (length-map jobs (altered_job free margin) ∙ sym h.as_many) λ j below.
        let given : j < length jobs = rw (length-map jobs (altered_job free margin)) at below in
        altered-at j given ∙ altered_only (h.each j given)

    altered_back : (altered : List Job) → AlteredJobs free margin jobs altered → alter_jobs free margin jobs ≡ answer altered
    unfolding alter_jobs
    altered_back altered h =
        rw (le-ltb max_free free h.free_high, le-ltb max_margin margin h.margin_high, altered_map h)
        (by_entry_passes (λ j. altered_fault (job_of altered j)) (answer altered) (length jobs)
        (λ j below. (altered_sound (job_of altered j)).1 ((h.each j below).window_left, (h.each j below).cycles_high)))

pub jobs_altered : JobsAltered
jobs_altered free margin jobs altered = (altered_forth free margin jobs altered, altered_back free margin jobs altered)

pub altered_are_valid : AlteredAreValid
altered_are_valid = (of_levels, of_jobs)
  where
    of_levels : (highest : ℕ) (entries levels : List Level) → ValidLevelTable entries → alter_levels highest entries ≡ answer levels → ValidLevelTable levels
    of_levels highest entries levels valid e =
        let h = (levels_altered highest entries levels).0 e in
        rw h.entries_are (up_to_valid highest entries h.highest_low h.highest_high valid)

    of_jobs : (free margin : ℕ) (jobs altered : List Job) → ValidJobs jobs → alter_jobs free margin jobs ≡ answer altered → ValidJobs altered
    of_jobs free margin jobs altered valid e =
        let h = (jobs_altered free margin jobs altered).0 e in
        let given : (j : ℕ) → j < length altered → j < length jobs = λ j below. rw h.as_many at below in
        record {
          few = rw h.as_many valid.few;
          release_before_deadline = λ j below. (h.each j (given j below)).window_left;
          deadline_high = λ j below. omega (arith, (h.each j (given j below)).deadline_earlier, valid.deadline_high j (given j below));
          cycles_low = λ j below. omega (arith, (h.each j (given j below)).margin_whole, valid.cycles_low j (given j below));
          cycles_high = λ j below. (h.each j (given j below)).cycles_high;
        }

-- no ticks kept free and no margin leave every job as it is
kept_job : (job : Job) → altered_job 0 0 job ≡ job
kept_job job =
    altered_fields 0 0
    (record { same_release = refl; deadline_earlier = omega arith; margin_whole = omega arith; margin_least = omega arith })

pub altered_by_nothing : (jobs : List Job) → map (altered_job 0 0) jobs ≡ jobs
altered_by_nothing [] = refl
altered_by_nothing (job ∷ jobs) = ap₂ (λ (j : Job) (l : List Job). j ∷ l) (kept_job job) (altered_by_nothing jobs)

pub full_count_alters_nothing : FullCountAltersNothing
unfolding alter_levels
full_count_alters_nothing = (of_levels, of_jobs)
  where
    of_levels : (entries : List Level) → ValidLevelTable entries → alter_levels (length (running_levels entries)) entries ≡ answer entries
    of_levels entries valid =
        let many : ℕ = length (running_levels entries) in
        rw (
          le-leb 1 many valid.running.some,
          le-leb many many (omega arith),
          take_all (idle_entries entries + many) entries (omega (arith, running_length entries)),
        )

    of_jobs : (jobs : List Job) → ValidJobs jobs → alter_jobs 0 0 jobs ≡ answer jobs
    of_jobs jobs valid =
        (jobs_altered 0 0 jobs jobs).1
        (record {
          free_high = omega arith;
          margin_high = omega arith;
          as_many = refl;
          each = λ j below.
              record {
                same_release = refl;
                deadline_earlier = omega arith;
                margin_whole = omega arith;
                margin_least = omega arith;
                window_left = valid.release_before_deadline j below;
                cycles_high = valid.cycles_high j below;
              };
        })
