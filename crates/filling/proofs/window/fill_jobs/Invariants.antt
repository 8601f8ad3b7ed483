-- `window::fill_jobs` meets its contract. The loop's invariant: some cycles are placed. Assumes nothing.
use Rattle.filling.specs.OwnWindows.{WindowsPassed}
use Rattle.filling.proofs.window.fill_jobs.Given as goal

abbrev pub invariant-loop-interval : goal.invariant-loop-interval
invariant-loop-interval l =
    WindowsPassed l.jobs l.first l.last l.initial.shares l.initial.room l.initial.holders l.initial.left l.shares l.room l.holders l.left
