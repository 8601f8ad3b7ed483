-- `window::fill_set` meets its contract. The loop's invariant: some cycles are placed, and the rest of the set are jobs
-- (proofs/JobMembers.antt). Assumes nothing.
use mathlib.Core.Path.{◌≡◌}
use mathlib.Core.Bool.{true}
use Prim.Native.Nat.{ℕ, ◌<◌}
use Rattle.job_sets.specs.JobSets.{is_member, member_count}
use Rattle.filling.specs.OwnWindows.{WindowsPassed}
use Rattle.filling.proofs.window.fill_set.Given as goal

abbrev pub invariant-loop-rest : goal.invariant-loop-rest
invariant-loop-rest l =
    WindowsPassed l.jobs l.first l.last l.initial.shares l.initial.room l.initial.holders l.initial.left l.shares l.room l.holders l.left
    × ((j : ℕ) → is_member l.rest j ≡ true → j < l.jobs)

abbrev pub decreases-loop-rest : goal.decreases-loop-rest
decreases-loop-rest l = member_count l.rest
