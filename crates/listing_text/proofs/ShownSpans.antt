-- What a shown plan has at one interval, in the code's terms.
-- Assumes nothing.
use mathlib.Core.Path.{◌≡◌}
use mathlib.Core.List.{List}
use Prim.Native.Nat.{ℕ, suc, ◌+◌, ◌-◌, ◌<◌, ◌≤◌}
use native.Mathlib.Numerals.{add-one}
use lib.ListN.{get_or}
use Rattle.model.specs.Limits.{max_deadline}
use Rattle.model.specs.Sum.{sum}
use Rattle.model.specs.Points.{Point}
use Rattle.model.specs.Plans.{shares_in}
use Rattle.levels.specs.declared.points.PointTable.{PointTable}
use Rattle.levels.specs.PointTables.{points_of}
use Rattle.settings.specs.Settings.{Fits}
use Rattle.listing_lines.specs.PlanText.{span_line}
use Rattle.listing_text.specs.ShownPlans.{bounds_in, ShownPlan}

pub span_ready : {working : PointTable} {jobs intervals : ℕ} {times prices shares : List ℕ}
    → ShownPlan working jobs intervals times prices shares → (i : ℕ) → i < intervals
    → (load : ℕ) → load ≡ sum jobs (shares_in jobs shares i)
    → (get_or times i 0 < get_or times (i + 1) 0) × (get_or times (i + 1) 0 ≤ max_deadline) × Fits (points_of working) (get_or times (i + 1) 0 - get_or times i 0) load
span_ready shown i below load is =
    rw (add-one i, is) (shown.rises i below, shown.within i below, shown.fits i below)

pub span_shown : (working : List Point) (times : List ℕ) (i : ℕ) (load total price : ℕ) → load ≡ total
    → span_line working (get_or times i 0) (get_or times (i + 1) 0) load price ≡ span_line working (bounds_in times i) (bounds_in times (suc i)) total price
span_shown working times i load total price is = rw (add-one i, is)
