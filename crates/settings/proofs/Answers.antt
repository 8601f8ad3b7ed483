-- The setting of one interval, one law for each way out: refused levels, refusals 25 and 26, and the setting over the working
-- points that stand in a table.
-- Assumes nothing.
use mathlib.Core.Path.{◌≡◌, refl, ◌∙◌, ap}
use mathlib.Core.List.{List}
use Prim.Native.Nat.{ℕ, ◌-◌, ◌*◌, ◌<◌, ◌≤◌}
use native.Mathlib.Nat.{mul-le-mul}
use native.Mathlib.Omega.{arith}
use lib.ListN.{get_or}
use borrow.Author.Tests.{lt-ltb, le-ltb, lt-leb, le-leb}
use Rattle.std.specs.Prelude.{Ok, Err}
use Rattle.model.specs.declared.refusal.Refusal.{Refusal}
use Rattle.model.specs.declared.Level.{Level}
use Rattle.model.specs.Limits.{max_deadline}
use Rattle.model.specs.Outcome.{Outcome, refused, answer, and_then}
use Rattle.model.specs.Refusals.{refusal}
use Rattle.model.specs.LevelTables.{running_levels, read_levels, ValidLevelTable}
use Rattle.model.specs.Points.{top_frequency}
use Rattle.model.specs.Bands.{Curve}
use Rattle.model.specs.Processors.{working_of, processor_of}
use Rattle.model.specs.SiteParameters.{alter_levels}
use Rattle.model.specs.Setting.{Setting, setting_of, setting_for, setting}
use Rattle.model.proofs.Refusals.{RefusedBy}
use Rattle.model.proofs.Sites.{valid_processor}
use Rattle.model.proofs.Working.{working_curve, working_top}
use Rattle.level_tables.specs.Tables.{levels_in}
use Rattle.level_tables.proofs.Read.{top_in, top_high}
use Rattle.levels.specs.declared.points.PointTable.{PointTable}
use Rattle.settings.specs.declared.interval.IntervalSetting.{IntervalSetting}
use Rattle.levels.specs.PointTables.{point_table, points_of, SmallPoints}
use Rattle.settings.specs.Settings.{answered, setting_answer, Fits}
use Rattle.levels.proofs.SmallPoints.{working_small, working_held}

-- the setting of what altering a level table answers
abbrev pub setting_altered : Outcome (List Level) → (ticks load : ℕ) → Outcome Setting
setting_altered altered ticks load = and_then altered λ levels. setting_for (processor_of levels) ticks load

module _ (bytes : List ℕ) (highest ticks load : ℕ) where
  pub levels_refused : (own : Refusal) → RefusedBy (read_levels bytes) own → Err own ≡ setting_answer (setting bytes highest ticks load)
  unfolding setting
  levels_refused own by = rw (by.outcome_is, by.own_is)

  pub levels_answered : (levels : List Level) → read_levels bytes ≡ answer levels
      → setting_altered (alter_levels highest levels) ticks load ≡ setting bytes highest ticks load
  unfolding setting
  levels_answered levels e = rw e (go (alter_levels highest levels))
    where
      go : (altered : Outcome (List Level))
          → setting_altered altered ticks load
          ≡ and_then (and_then altered (λ levels. answer (processor_of levels))) (λ processor. setting_for processor ticks load)
      go (refused number place) = refl
      go (answer levels) = refl

module _ (count : ℕ) (frequencies voltages : List ℕ) (valid : ValidLevelTable (levels_in count frequencies voltages)) where
  pub top_load : (ticks : ℕ) → ticks ≤ max_deadline → ticks * get_or frequencies (count - 1) 0 ≤ 1_000_000_000
  top_load ticks few =
      omega (arith, mul-le-mul few (top_high count frequencies voltages valid))

module _ (count : ℕ) (frequencies voltages : List ℕ) (ticks load : ℕ) where
  abbrev levels : List Level
  levels = levels_in count frequencies voltages

  pub too_short : ticks < 1 → Err (refusal 25 0) ≡ setting_answer (setting_for (processor_of levels) ticks load)
  too_short short = rw (lt-leb 1 ticks short)

  pub too_long : 1 ≤ ticks → max_deadline < ticks → Err (refusal 25 0) ≡ setting_answer (setting_for (processor_of levels) ticks load)
  too_long some long = rw (le-leb 1 ticks some, lt-leb ticks max_deadline long)

  module _ (valid : ValidLevelTable levels) (some : 1 ≤ ticks) (few : ticks ≤ max_deadline) where
    pub overloaded : ticks * get_or frequencies (count - 1) 0 < load → Err (refusal 26 0) ≡ setting_answer (setting_for (processor_of levels) ticks load)
    overloaded over =
        let high : ticks * top_frequency (running_levels levels) < load = rw (← top_in count frequencies voltages valid) at over in
        rw (le-leb 1 ticks some, le-leb ticks max_deadline few, lt-ltb _ _ high)

    module _ (fits : load ≤ ticks * get_or frequencies (count - 1) 0) (table : PointTable) (working : table ≡ point_table (working_of (processor_of levels))) where
      top_fits : load ≤ ticks * top_frequency (running_levels levels)
      top_fits = rw (← top_in count frequencies voltages valid) at fits

      pub working_fits : (SmallPoints table × Curve (points_of table)) × ((ticks ≤ max_deadline) × Fits (points_of table) ticks load)
      working_fits =
          let processor = processor_of levels in
          let sound = valid_processor levels valid in
          rw (working, working_held processor sound, working_top processor.idle_power processor.levels sound.rising)
          ((working_small processor sound, working_curve _ sound.rising), (few, top_fits))

      pub settled : (result : IntervalSetting) → result ≡ answered (setting_of (points_of table) ticks load)
          → Ok result ≡ setting_answer (setting_for (processor_of levels) ticks load)
      settled result found =
          ap Ok found ∙ rw (working, working_held (processor_of levels) (valid_processor levels valid), le-leb 1 ticks some, le-leb ticks max_deadline few, le-ltb _ _ top_fits)
