-- The hypotheses of the theorems shut nothing out.
-- Assumes nothing.
use mathlib.Core.Path.{◌≡◌, refl, ◌∙◌}
use mathlib.Core.Logic.{◌⊎◌, inl, inr}
use Prim.Native.Nat.{ℕ, zero, suc, ◌<◌}
use native.Mathlib.Omega.{arith}
use lib.ListN.{length}
use Rattle.model.specs.Points.{points, point_at}
use Rattle.model.specs.Sites.{read_given, alter_tables, read_site}
use Rattle.model.specs.Schedules.{Slot, idles, runs, IsGiven}
use Rattle.model.specs.Planning.{step_limit}
use Rattle.model.specs.Hypotheses.{
  EveryLevels,
  EveryLevelTable,
  EveryJobTable,
  EveryMarkTable,
  EveryTableRead,
  EverySite,
  EveryValidSite,
  EveryBounds,
  EveryTableHasBounds,
  EverySchedule,
  EverySiteRead,
  EveryValidTable,
  EveryGivenTable,
  EveryBuffer,
}
use Rattle.model.proofs.Sites.{valid_tables, sites_are_valid, as_given_alters_nothing}
use Rattle.model.proofs.LevelTables.{levels_valid, plain_table, idle_table}
use Rattle.model.proofs.Jobs.{jobs_valid}
use Rattle.model.proofs.Marks.{marks_valid}
use Rattle.model.proofs.MarkedBounds.{bounds-with}
use Rattle.model.proofs.Points.{points_length, points_level, points_rise}
use Rattle.model.proofs.LeastEnergy.{valid_site}

pub every_levels : EveryLevels
every_levels levels some few frequencies rising voltages never-falling =
    record {
      some = some;
      few = few;
      frequency_low = λ i below. (frequencies i below).0;
      frequency_high = λ i below. (frequencies i below).1;
      frequency_rises = rising;
      voltage_low = λ i below. (voltages i below).0;
      voltage_high = λ i below. (voltages i below).1;
      voltage_never_falls = never-falling;
    }

pub every_level_table : EveryLevelTable
every_level_table = (plain_table, λ draw levels valid few high low. idle_table draw levels valid few high low)

pub every_job_table : EveryJobTable
every_job_table jobs few windows cycles =
    record {
      few = few;
      release_before_deadline = λ j below. (windows j below).0;
      deadline_high = λ j below. (windows j below).1;
      cycles_low = λ j below. (cycles j below).0;
      cycles_high = λ j below. (cycles j below).1;
    }

pub every_mark_table : EveryMarkTable
every_mark_table marks few rises = record { few = few; rises = rises }

pub every_table_read : EveryTableRead
every_table_read = (levels_valid, jobs_valid, marks_valid)

-- idling is the point before the first level
pub every_site : EverySite
unfolding points
every_site idle_power levels jobs some positive low frequencies powers ordered =
    record {
      rising = record {
        some = rw (points_length idle_power levels) (omega arith);
        start = refl;
        frequency_rises = frequency;
        power_rises = power;
      };
      ordered = ordered;
    }
  where
    frequency : (i : ℕ) → suc i < length (points idle_power levels)
        → (point_at (points idle_power levels) i).frequency < (point_at (points idle_power levels) (suc i)).frequency
    frequency zero inside = rw (points_level idle_power levels 0) positive
    frequency (suc i) inside =
        rw (points_level idle_power levels i, points_level idle_power levels (suc i)) (frequencies i (omega (arith, points_length idle_power levels)))

    power : (i : ℕ) → suc i < length (points idle_power levels)
        → (point_at (points idle_power levels) i).power < (point_at (points idle_power levels) (suc i)).power
    power zero inside = rw (points_level idle_power levels 0) low
    power (suc i) inside =
        rw (points_level idle_power levels i, points_level idle_power levels (suc i)) (powers i (omega (arith, points_length idle_power levels)))

pub every_valid_site : EveryValidSite
every_valid_site levels jobs valid sound = (
  valid_site levels jobs valid sound,
  λ idle_power low. record { rising = points_rise idle_power levels valid low; ordered = sound.release_before_deadline },
)

pub every_bounds : EveryBounds
every_bounds jobs bounds rises releases deadlines first last =
    record { rises = rises; release_found = releases; deadline_found = deadlines; first = first; last = last }

pub every_table_has_bounds : EveryTableHasBounds
every_table_has_bounds jobs sound marks = bounds-with marks jobs sound.release_before_deadline

pub every_schedule : EverySchedule
every_schedule levels jobs q low slot named = (record { q = q; q_low = low; slot = slot; given = λ s below. given (slot s) (named s below) }, refl, refl)
  where
    given : (slot : Slot) → (slot ≡ idles) ⊎ ((level job : ℕ) × (level < length levels) × (job < length jobs) × (slot ≡ runs level job))
        → IsGiven levels jobs slot
    given slot (inl e) = rw e tt
    given slot (inr (level, job, given-level, given-job, e)) = rw e (given-level, given-job)

pub every_site_read : EverySiteRead
every_site_read = (sites_are_valid, valid_tables)

pub every_valid_table : EveryValidTable
unfolding read_site read_given alter_tables
every_valid_table level_bytes job_bytes mark_bytes parameters entries levels jobs altered marks levels_read jobs_read marks_read levels_altered jobs_altered =
    rw (levels_read, jobs_read, marks_read, levels_altered, jobs_altered)

pub every_given_table : EveryGivenTable
unfolding read_given
every_given_table level_bytes job_bytes mark_bytes entries jobs marks levels_read jobs_read marks_read =
    as_given_alters_nothing level_bytes job_bytes mark_bytes ∙ rw (levels_read, jobs_read, marks_read)

pub every_buffer : EveryBuffer
unfolding step_limit
every_buffer site plan_room price_room share_room plan-room price-room share-room =
    record { plan-room = omega arith; price-room = price-room; share-room = share-room }
