-- The steps of all shares that are not 0, in cell order: interval by interval, within it by job number.
use Rattle.std.specs.Prelude.{ℕ, zero, suc, List, [], ◌∷◌}
use Rattle.model.specs.Entries.{joined}
use Rattle.model.specs.Plans.{Shares}
use Rattle.model.specs.Steps.{Step}

-- The step of a share; a share of 0 has none.
unfoldable pub step_of : (interval job share : ℕ) → List Step
step_of interval job zero = []
step_of interval job (suc n) = record { interval = interval; job = job; cycles = suc n } ∷ []

-- The steps of one interval, by job number.
abbrev pub steps_in : (jobs : ℕ) → Shares → (interval : ℕ) → List Step
steps_in jobs shares i = joined jobs (λ j. step_of i j (shares i j))

unfoldable pub steps_of : (jobs intervals : ℕ) → Shares → List Step
steps_of jobs intervals shares = joined intervals (steps_in jobs shares)
