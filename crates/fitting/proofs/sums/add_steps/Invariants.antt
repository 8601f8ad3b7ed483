-- `sums::add_steps` meets its contract. The loop's invariant: the cycles of the steps passed are added by job and by interval
-- (proofs/Tallies.antt). Assumes nothing.
use mathlib.Core.Path.{◌≡◌}
use Prim.Native.Nat.{◌≤◌}
use Rattle.model.specs.Limits.{max_intervals, max_jobs}
use Rattle.model.specs.Steps.{step_at}
use Rattle.fitting.specs.Sums.{tally_of}
use Rattle.fitting.proofs.sums.add_steps.Given as goal

abbrev pub invariant-loop-s : goal.invariant-loop-s
invariant-loop-s l =
    (l.s ≤ l.s-end)
    × (l.sums ≡ tally_of max_jobs l.s (λ r. (step_at l.plan r).job) (λ r. (step_at l.plan r).cycles))
    × (l.loads ≡ tally_of max_intervals l.s (λ r. (step_at l.plan r).interval) (λ r. (step_at l.plan r).cycles))
