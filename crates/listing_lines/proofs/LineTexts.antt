-- The numbers of a line are those of its definition, and the lines of steps one after another.
-- Assumes nothing.
use mathlib.Core.Path.{◌≡◌, refl, sym}
use mathlib.Core.List.{List, [], ◌∷◌, append-nil}
use Prim.Native.Nat.{ℕ, zero, suc, ◌-◌, ◌<◌, ◌≤◌}
use Rattle.model.specs.Entries.{encode_each, joined}
use Rattle.model.specs.Points.{Point}
use Rattle.model.specs.Setting.{setting_of}
use Rattle.model.specs.Plans.{Shares}
use Rattle.model.specs.Steps.{Step}
use Rattle.settings.specs.declared.interval.IntervalSetting.{IntervalSetting}
use Rattle.settings.specs.Settings.{answered}
use Rattle.writing.specs.StepList.{step_of, steps_in, steps_of}
use Rattle.writing.proofs.CellOrder.{step_of_none, step_of_some}
use Rattle.writing.proofs.Encoded.{encode_each_append}
use Rattle.listing_lines.specs.TextLines.{line, span_word, step_word}
use Rattle.listing_lines.specs.PlanText.{span_line, step_line, step_lines}

-- the setting that is answered
pub span_text : (working : List Point) (from to load price : ℕ)
    → (found : IntervalSetting) → found ≡ answered (setting_of working (to - from) load)
    → line span_word (from ∷ to ∷ load ∷ found.band ∷ found.extra ∷ found.gap ∷ price ∷ []) ≡ span_line working from to load price
unfolding span_line
span_text working from to load price found is = rw is

module _ (interval job share : ℕ) where
  pub no_step_text : share ≤ 0 → [] ≡ encode_each step_line (step_of interval job share)
  unfolding encode_each
  no_step_text no_share = rw (step_of_none interval job share no_share)

  pub step_text : 0 < share → line step_word (interval ∷ job ∷ share ∷ []) ≡ encode_each step_line (step_of interval job share)
  unfolding encode_each step_line
  step_text some_share = rw (step_of_some interval job share some_share) (sym (append-nil (line step_word (interval ∷ job ∷ share ∷ []))))

-- the lines of lists of steps, one after another
lines_joined : (n : ℕ) (steps : ℕ → List Step) → joined n (λ i. encode_each step_line (steps i)) ≡ encode_each step_line (joined n steps)
unfolding joined encode_each
lines_joined zero steps = refl
lines_joined (suc n) steps = rw (lines_joined n steps, encode_each_append)

module _ (jobs : ℕ) (shares : Shares) where
  pub interval_lines : (i : ℕ) → joined jobs (λ j. encode_each step_line (step_of i j (shares i j))) ≡ encode_each step_line (steps_in jobs shares i)
  interval_lines i = lines_joined jobs (λ j. step_of i j (shares i j))

  pub all_lines : (intervals : ℕ) → joined intervals (λ i. encode_each step_line (steps_in jobs shares i)) ≡ step_lines jobs intervals shares
  unfolding step_lines steps_of
  all_lines intervals = lines_joined intervals (steps_in jobs shares)
