-- Idling isn't free, over the tables in bytes and the calls themselves. What stands in quotes is document 02, Change 2. That the
-- three demands hold of level tables with an idle entry needs no statement of its own: they speak of every table that is read.
-- Proved in proofs/IdlingIsNotFree.antt.
use Rattle.std.specs.Prelude.{ℕ, ◌+◌, ◌-◌, ◌*◌, ◌<◌, ◌≤◌, ◌≡◌, ◌↔◌, List, ◌∷◌, length}
use Rattle.model.specs.declared.Level.{Level}
use Rattle.model.specs.declared.Parameters.{Parameters}
use Rattle.model.specs.Outcome.{answer}
use Rattle.model.specs.Bytes.{IsBytes}
use Rattle.model.specs.Levels.{level_of, ValidLevels}
use Rattle.model.specs.Points.{power_of}
use Rattle.model.specs.LevelTables.{idle_entry, encode_levels}
use Rattle.model.specs.SiteParameters.{as_given}
use Rattle.model.specs.Processors.{Processor, working_of, read_processor}
use Rattle.model.specs.Setting.{setting}
use Rattle.model.specs.Intervals.{earliest_release, latest_deadline}
use Rattle.model.specs.Sites.{Site, read_tables, read_site}
use Rattle.model.specs.Windows.{spare}
use Rattle.model.specs.Schedules.{horizon, slot_powers}
use Rattle.model.specs.Steps.{shares_of}
use Rattle.model.specs.Checking.{fits, check}
use Rattle.model.specs.Accepted.{ScheduleFor, powers_for, exact_for, gaps_of}
use Rattle.model.specs.Demands.{ValidTables}
use Rattle.model.specs.IdleDraw.{IdlingIsAPoint, Works, energy_of_bands, figure_of_bands, idle_slots, DrawMovesNoWindow}
use Rattle.planning.specs.MadePlans.{Buffers}
use Rattle.planning.specs.PlanAnswers.{PlanAnswer, PlanContract}
use Rattle.ordering.specs.Ordering.{order}
use Rattle.nearest.specs.Nearest.{nearest}
use Rattle.rounds.specs.RoundAnswers.{LaidOut}
use Rattle.repeats.specs.Repeats.{repeat_site, repeat_shares, energy_at, RepeatsApart}
use Rattle.demands.specs.ThreeDemands.{SuchAPlan}
use Rattle.demands.specs.RepeatedRounds.{LayOutCall, jobs_written}

-- A new board: running levels, and a draw that may stand before them.
pub record Board (draw : ℕ) (levels : List Level) : Type 0 where
  pub valid : ValidLevels levels
  -- "the count of 2 includes it"
  pub few : length levels ≤ 7
  -- 16 bits
  pub draw_fits : draw ≤ 65_535
  -- 32
  pub draw_low : 1_000 * draw < power_of (level_of levels 0)

-- The bytes of a level table are those of running levels after an idle entry, or of running levels alone.
pub data TableOf (bytes : List ℕ) (processor : Processor) : Type 0 where
  with_entry : (draw : ℕ) → Board draw processor.levels → processor.idle_power ≡ 1_000 * draw
      → bytes ≡ encode_levels (idle_entry draw ∷ processor.levels) → TableOf bytes processor
  without_entry : ValidLevels processor.levels → processor.idle_power ≡ 0 → bytes ≡ encode_levels processor.levels → TableOf bytes processor

-- "The exact energy and the reported figure both gain draw × that length", the one "from earliest release to latest deadline".
-- The exact energy is multiplied out by all gaps.
pub record GainsTheDraw (site : Site) (plan : List ℕ) (figure : ℕ) : Type 0 where
  pub exact : exact_for site plan
      ≡ energy_of_bands (working_of site.processor) site.jobs site.bounds (shares_of plan)
      + site.processor.idle_power * horizon site.jobs * gaps_of site
  pub reported : figure
      ≡ figure_of_bands (working_of site.processor) site.jobs site.bounds (shares_of plan)
      + site.processor.idle_power * horizon site.jobs

-- "every schedule a plan is measured against pays for idle slots too": the draw for each, above what it costs where idling is free.
abbrev pub PaysForIdleSlots : (site : Site) → ScheduleFor site → Type 0
PaysForIdleSlots site schedule = powers_for site schedule ≡ slot_powers 0 schedule + site.processor.idle_power * idle_slots schedule

-- "also between repeats": a plan repeated r times, once every H ticks, costs its own energy for each repeat and the draw for
-- each tick between two of them; and every schedule for the repeated jobs pays for its idle slots, wherever they are.
pub record PaysBetweenRepeats (H r : ℕ) (site : Site) (plan : List ℕ) : Type 0 where
  -- no repeat reaches into the next one, so that there is such a number of ticks between
  pub apart : RepeatsApart H site.jobs
  pub plan_pays : 0 < length site.jobs
      → (between : ℕ) → latest_deadline site.jobs + between ≡ H + earliest_release site.jobs
      → energy_at (repeat_site H r site) (repeat_shares H site (shares_of plan))
      ≡ r * exact_for site plan + (r - 1) * (between * (site.processor.idle_power * gaps_of site))
  pub schedules_pay : (schedule : ScheduleFor (repeat_site H r site)) → PaysForIdleSlots (repeat_site H r site) schedule

-- Two level tables of which nothing but the reading of their entries tells the one from the other. They have the same processor,
-- whose working levels are then the same, and make the same sites; and every further operation answers the same. What the listing
-- prints is a function of the site and of what planning answered.
pub record SameAnswers (one two : List ℕ) : Type 0 where
  pub processors : (highest : ℕ) → read_processor one highest ≡ read_processor two highest
  pub tables : (jobs : List ℕ) (parameters : Parameters) → read_tables one jobs parameters ≡ read_tables two jobs parameters
  pub sites : (jobs marks : List ℕ) (parameters : Parameters) → read_site one jobs marks parameters ≡ read_site two jobs marks parameters
  pub settings : (highest length load : ℕ) → setting one highest length load ≡ setting two highest length load
  pub spares : (jobs : List ℕ) (parameters : Parameters) (start end : ℕ) → spare one jobs parameters start end ≡ spare two jobs parameters start end
  pub nearests : (jobs : List ℕ) (parameters : Parameters) (room : ℕ) → nearest one jobs parameters room ≡ nearest two jobs parameters room
  pub fitting : (jobs marks : List ℕ) (parameters : Parameters) (plan : List ℕ) → fits one jobs marks parameters plan ≡ fits two jobs marks parameters plan
  pub checks : (jobs marks : List ℕ) (parameters : Parameters) (plan prices : List ℕ)
      → check one jobs marks parameters plan prices ≡ check two jobs marks parameters plan prices
  pub orders : (jobs marks : List ℕ) (parameters : Parameters) (plan prices : List ℕ) (room : ℕ)
      → order one jobs marks parameters plan prices room ≡ order two jobs marks parameters plan prices room
  pub plans : (jobs marks : List ℕ) (parameters : Parameters) (before after : Buffers) (answered : PlanAnswer)
      → PlanContract one jobs marks parameters before after answered ↔ PlanContract two jobs marks parameters before after answered

pub record IdlingIsNotFree : Type 0 where
  -- "A level table may begin with a frequency 0 entry whose voltage place holds the idle draw in thousands of power units; without
  -- it idling draws 0." Every such table is read so, and no other bytes are read.
  -- With all running levels allowed the processor is that of the table.
  pub read : (bytes : List ℕ) → IsBytes bytes → (processor : Processor) → (read_processor bytes (as_given bytes).highest ≡ answer processor) ↔ TableOf bytes processor
  -- "Idling is then the point (0, draw) in the test for working levels and in all energies"
  pub point : IdlingIsAPoint
  -- both energies gain the draw, of every plan that planning writes, that fits or that the check accepts: demand 2 and Change 8 say
  -- of them that they are such plans
  pub gained : (level_bytes job_bytes mark_bytes : List ℕ) (parameters : Parameters) (site : Site) → ValidTables level_bytes job_bytes mark_bytes parameters site
      → (plan : List ℕ) (figure : ℕ) → SuchAPlan site plan figure → GainsTheDraw site plan figure
  -- every schedule pays
  pub schedules_pay : (site : Site) (schedule : ScheduleFor site) → PaysForIdleSlots site schedule
  -- also between the repeats of a plan that was accepted for a round
  pub between_repeats : (laid : LayOutCall) (length multiple : ℕ) → laid.answered ≡ LaidOut length multiple
      → (level_bytes mark_bytes : List ℕ) (parameters : Parameters) (plan prices : List ℕ) (figure : ℕ)
      → check level_bytes (jobs_written laid length) mark_bytes parameters plan prices ≡ answer figure
      → (site : Site) → ValidTables level_bytes (jobs_written laid length) mark_bytes parameters site
      → (r : ℕ) → PaysBetweenRepeats multiple r site plan
  -- a draw never drops a level that works without it; `DrawKeepsLevels` says it of any two draws
  pub keeps_levels : (draw : ℕ) (levels : List Level) → Board draw levels → (i : ℕ) → Works 0 levels i → Works (1_000 * draw) levels i
  -- and it moves no window
  pub moves_no_window : DrawMovesNoWindow
  -- an idle entry with draw 0 is as none, but to the reading, which answers the entries as they stand
  pub draw_of_nothing : (levels : List Level) → ValidLevels levels → length levels ≤ 7
      → SameAnswers (encode_levels (idle_entry 0 ∷ levels)) (encode_levels levels)
