-- What the setting of one interval answers: the paper's values, or the refusal.
use Rattle.std.specs.Prelude.{ℕ, ◌*◌, ◌≤◌, List, Result}
use Rattle.model.specs.declared.refusal.Refusal.{Refusal}
use Rattle.model.specs.Outcome.{Outcome}
use Rattle.model.specs.Refusals.{returned_by}
use Rattle.model.specs.Points.{Point}
use Rattle.model.specs.Bands.{band_count, frequency_of}
use Rattle.model.specs.Setting.{Setting}
use Rattle.settings.specs.declared.interval.IntervalSetting.{IntervalSetting}

-- A setting of the definitions as one of the code.
abbrev pub answered : Setting → IntervalSetting
answered setting = record { band = setting.band; extra = setting.extra; gap = setting.gap }

-- The setting, or the refusal.
abbrev pub setting_answer : Outcome Setting → Result IntervalSetting Refusal
setting_answer outcome = returned_by answered outcome

-- A load at most length × top frequency.
abbrev pub Fits : List Point → (length load : ℕ) → Type 0
Fits ws length load = load ≤ length * frequency_of ws (band_count ws)
