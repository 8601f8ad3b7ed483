-- `cells::mark_steps` meets its contract. The loop's invariant: no step passed has a fault, and the sets have the pairs of
-- the steps passed (proofs/SeenSets.antt, proofs/StepFaults.antt). Assumes nothing.
use mathlib.Core.Path.{◌≡◌}
use Prim.Native.Nat.{ℕ, ◌≤◌, ◌<◌}
use Rattle.job_records.specs.SetsHave.{SetsHave}
use Rattle.fitting.specs.SeenCells.{is_seen}
use Rattle.fitting.specs.FirstHalf.{step_fault_in}
use Rattle.fitting.proofs.cells.mark_steps.Given as goal

abbrev pub invariant-loop-s : goal.invariant-loop-s
invariant-loop-s l =
    (l.s ≤ l.s-end)
    × SetsHave l.seen (is_seen l.plan l.s)
    × ((k : ℕ) → k < l.s → step_fault_in l.sets l.cycles l.count l.bounds l.plan k ≡ 0)
