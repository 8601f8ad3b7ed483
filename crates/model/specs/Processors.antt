-- The processor of a site: what its levels give and what idling draws (document 01, "Jobs, levels, time";
-- document 02, Changes 2 and 9).
use Rattle.std.specs.Prelude.{ℕ, List}
use Rattle.model.specs.declared.Level.{Level}
use Rattle.model.specs.Outcome.{Outcome, answer, and_then}
use Rattle.model.specs.Levels.{ValidLevels}
use Rattle.model.specs.Points.{Point, points, working, top_frequency, RisingPoints}
use Rattle.model.specs.LevelTables.{read_levels, idle_power_of, running_levels}
use Rattle.model.specs.SiteParameters.{alter_levels}

-- Idling's power, and the running levels upward.
pub record Processor : Type 0 where
  pub idle_power : ℕ
  pub levels : List Level

module _ (processor : Processor) where
  -- idling and each level
  abbrev pub all_points : List Point
  all_points = points processor.idle_power processor.levels

  -- idling and the working levels
  abbrev pub working_of : List Point
  working_of = working all_points

  abbrev pub top_of : ℕ
  top_of = top_frequency processor.levels

-- "Idling is then the point (0, draw)", where the table begins with an idle entry; without it idling draws 0.
abbrev pub processor_of : (entries : List Level) → Processor
processor_of entries = record { idle_power = idle_power_of entries; levels = running_levels entries }

-- The processor of a level table up to the highest running level allowed: 35.
abbrev pub processor_up_to : (highest : ℕ) → (entries : List Level) → Outcome Processor
processor_up_to highest entries =
    and_then (alter_levels highest entries) λ levels.
    answer (processor_of levels)

-- And of one in bytes: refusals 1 to 5, 31 and 32 first.
abbrev pub read_processor : (level_bytes : List ℕ) → (highest : ℕ) → Outcome Processor
read_processor level_bytes highest =
    and_then (read_levels level_bytes) λ entries.
    processor_up_to highest entries

-- What holds of every processor that is read, proved in proofs/Sites.antt: its levels keep document 01's limits, and
-- frequencies and powers rise from idling on.
pub record ValidProcessor (processor : Processor) : Type 0 where
  pub levels : ValidLevels processor.levels
  pub rising : RisingPoints (all_points processor)
