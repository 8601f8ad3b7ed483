-- `steps::write_steps` meets its contract. The loop's invariant: the cells of the first `i` intervals are written
-- (proofs/StepStores.antt). Assumes nothing.
use Rattle.spans.proofs.StepStores.{CellsPut}
use Rattle.spans.proofs.steps.write_steps.Given as goal

abbrev pub invariant-loop-i : goal.invariant-loop-i
invariant-loop-i l = CellsPut l.times l.cells l.intervals l.start l.end l.initial.list l.i l.next l.list
