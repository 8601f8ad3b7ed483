-- `laying::lay_out` meets its contract. The loop's invariant: all jobs that are released before the tick are listed
-- (proofs/TickByTick.antt). Assumes nothing.
use Prim.Native.Nat.{◌-◌}
use Rattle.tasks.specs.Tasks.{task_entries}
use Rattle.laying.proofs.TickByTick.{Laying}
use Rattle.laying.proofs.laying.lay_out.Given as goal

abbrev pub invariant-loop-tick : goal.invariant-loop-tick
invariant-loop-tick l =
    Laying (task_entries l.bytes) l.multiple l.tick l.next l.releases l.deadlines l.cycles l.listed

abbrev pub decreases-loop-tick : goal.decreases-loop-tick
decreases-loop-tick l = l.multiple - l.tick
