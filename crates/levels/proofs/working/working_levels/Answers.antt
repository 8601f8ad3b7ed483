-- `working::working_levels` meets its contract. All points of a valid level table keep the limits and stand whole in their
-- table (proofs/SmallPoints.antt). Assumes nothing.
use mathlib.Core.Path.{◌∙◌}
use mathlib.Core.List.{List}
use Rattle.model.specs.declared.Level.{Level}
use Rattle.model.specs.Processors.{processor_of}
use Rattle.level_tables.specs.Tables.{levels_in}
use Rattle.model.proofs.Sites.{valid_processor}
use Rattle.levels.proofs.SmallPoints.{points_small, points_held}
use Rattle.levels.proofs.working.working_levels.Goals as goal
use Rattle.levels.proofs.working.working_levels.Goals.{Start}

-- the entries that stand in the arrays
abbrev entries_of : (c : Start) → List Level
entries_of c = levels_in c.args.count c.args.frequencies.now c.args.voltages.now

pub working_points-requires : goal.working_points-requires
working_points-requires c =
    rw c.all_points-all.ensures (points_small _ (valid_processor (entries_of (goal.at.working_points-requires c).Start) c.requires))

pub returns : goal.returns
returns c =
    c.working_points.ensures
    ∙ rw (c.all_points-all.ensures, points_held (processor_of (entries_of (goal.at.returns c).Start)) (valid_processor (entries_of (goal.at.returns c).Start) c.requires))
