-- The check in two halves (document 02, Change 8): what the first half answers, and that the check runs it and goes on. Stated for any
-- site. Proved in proofs/TwoHalves.antt.
use Rattle.std.specs.Prelude.{ℕ, ◌≡◌, ◌↔◌, List}
use Rattle.model.specs.Outcome.{answer, and_then}
use Rattle.model.specs.Processors.{top_of}
use Rattle.model.specs.Sites.{Site}
use Rattle.model.specs.Plans.{Gives}
use Rattle.model.specs.Steps.{shares_of}
use Rattle.model.specs.Checking.{pricing, figure_of, fits_for, check_for}
use Rattle.model.specs.Accepted.{IsPlan}

-- The plan gives each job exactly its cycles between release and deadline. Nothing is asked of prices.
pub record Fits (site : Site) (plan : List ℕ) : Type 0 where
  pub is-plan : IsPlan site.jobs site.bounds plan
  pub gives : Gives (top_of site.processor) site.jobs site.bounds (shares_of plan)

-- The first half answers a figure exactly when the plan fits, and the figure is the plan's.
abbrev pub FitsExactly : Type 0
FitsExactly =
    (site : Site) (plan : List ℕ) (figure : ℕ)
    → (fits_for site plan ≡ answer figure) ↔ (Fits site plan × (figure ≡ figure_of site plan))

-- The check runs the first half, goes on to 21 to 24, and answers the first half's figure.
abbrev pub CheckRunsFits : Type 0
CheckRunsFits =
    (site : Site) (plan prices : List ℕ)
    → check_for site plan prices
    ≡ (and_then (fits_for site plan) λ figure.
    pricing site plan prices (answer figure))
