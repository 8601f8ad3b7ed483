-- `points::no_points` meets its contract: the arrays of a table without points are zeros, by computation. Assumes nothing.
use mathlib.Core.Path.{refl}
use Rattle.model.specs.Entries.{list_of}
use Rattle.reading.specs.Column.{column_of}
use Rattle.levels.proofs.points.no_points.Goals as goal

pub returns : goal.returns
unfolding column_of list_of
returns c = refl
