-- The text of a plan (document 01, "Sites to try"): a line with the sizes, a line for each interval, a line for each step,
-- and a line with the energy.
use Rattle.std.specs.Prelude.{ℕ, suc, ◌-◌, List, [], ◌∷◌, ◌++◌, length}
use Rattle.model.specs.Entries.{encode_each, joined}
use Rattle.model.specs.Sum.{sum}
use Rattle.model.specs.Points.{Point}
use Rattle.model.specs.Processors.{working_of}
use Rattle.model.specs.Setting.{Setting, setting_of}
use Rattle.model.specs.Intervals.{interval_count, bound_at}
use Rattle.model.specs.Sites.{Site}
use Rattle.model.specs.Plans.{Shares}
use Rattle.model.specs.Prices.{PriceList}
use Rattle.model.specs.Steps.{Step}
use Rattle.writing.specs.StepList.{steps_of}
use Rattle.listing_lines.specs.TextLines.{line, sizes_word, span_word, step_word, energy_word}

-- "span: from, to, load, then band, extra and gap as the setting of one interval answers them (zeros for load 0), price."
unfoldable pub span_line : (working : List Point) → (from to load price : ℕ) → List ℕ
span_line working from to load price =
    let set : Setting = setting_of working (to - from) load in
    line span_word (from ∷ to ∷ load ∷ set.band ∷ set.extra ∷ set.gap ∷ price ∷ [])

-- "step: interval, job, cycles"
unfoldable pub step_line : Step → List ℕ
step_line step = line step_word (step.interval ∷ step.job ∷ step.cycles ∷ [])

-- "step: .., in cell order": the steps of all shares that are not 0.
unfoldable pub step_lines : (jobs intervals : ℕ) → Shares → List ℕ
step_lines jobs intervals shares = encode_each step_line (steps_of jobs intervals shares)

-- A plan for so many jobs, over intervals that go from one bound to the next, at the working levels.
module _ (working : List Point) (jobs intervals : ℕ) (bounds : ℕ → ℕ) (prices : PriceList) (shares : Shares) where
  -- The load of an interval is the sum of its jobs' cycles there.
  unfoldable pub span_lines : List ℕ
  span_lines = joined intervals (λ i. span_line working (bounds i) (bounds (suc i)) (sum jobs (shares i)) (prices i))

  -- "sizes: jobs, intervals, steps." The spans, the steps, and the energy figure at the end.
  unfoldable pub plan_text : (steps energy : ℕ) → List ℕ
  plan_text steps energy =
      line sizes_word (jobs ∷ intervals ∷ steps ∷ [])
      ++ (span_lines ++ (step_lines jobs intervals shares ++ line energy_word (energy ∷ [])))

-- The text of a plan for a site.
abbrev pub text_of_plan : Site → PriceList → Shares → (steps energy : ℕ) → List ℕ
text_of_plan site = plan_text (working_of site.processor) (length site.jobs) (interval_count site.bounds) (bound_at site.bounds)
