-- The setting of one interval (document 01, "Load" and "Setting of one interval").
use Rattle.std.specs.Prelude.{ℕ, zero, suc, ◌-◌, ◌*◌, not, ◌&&◌, List, ltb, leb}
use Rattle.model.specs.Limits.{max_deadline}
use Rattle.model.specs.Outcome.{Outcome, answer, refuse_when, and_then}
use Rattle.model.specs.Search.{first_below}
use Rattle.model.specs.Points.{Point}
use Rattle.model.specs.Bands.{band_count, frequency_of, gap}
use Rattle.model.specs.Processors.{Processor, working_of, top_of, read_processor}

-- The clock stays extra / gap ticks on working level `band`, first, and the remaining time on the one below.
-- The band counts from 1, as in document 01; zeros for load 0, which idles.
pub record Setting : Type 0 where
  pub band : ℕ
  pub extra : ℕ
  pub gap : ℕ

-- For a load above 0 the band is the least k with load ≤ length × f_k. Counted from 0, as the other bands.
unfoldable pub band_of : List Point → (length load : ℕ) → ℕ
band_of ws length load = first_below (band_count ws) (λ k. leb load (length * frequency_of ws (suc k)))

-- extra = load − length × f_(k−1), gap = f_k − f_(k−1)
unfoldable pub setting_of : List Point → (length load : ℕ) → Setting
setting_of ws length zero = record { band = 0; extra = 0; gap = 0 }
setting_of ws length (suc cycles) =
    let load : ℕ = suc cycles in
    let k : ℕ = band_of ws length load in
    record { band = suc k; extra = load - length * frequency_of ws k; gap = gap ws k }

-- 25: length not 1 to 1,000,000. 26: load above length × top frequency.
abbrev pub setting_for : Processor → (length load : ℕ) → Outcome Setting
setting_for processor length load =
    refuse_when (not (leb 1 length && leb length max_deadline)) 25
    (refuse_when (ltb (length * top_of processor) load) 26
    (answer (setting_of (working_of processor) length load)))

-- Setting of one interval. Levels, 35, then 25 and 26.
unfoldable pub setting : (level_bytes : List ℕ) → (highest length load : ℕ) → Outcome Setting
setting level_bytes highest length load =
    and_then (read_processor level_bytes highest) λ processor.
    setting_for processor length load
