-- `plan::write_share` meets its contract. A share that is not 0 has one step, whose cell and cycles are written.
-- Assumes nothing.
use mathlib.Core.Path.{◌≡◌}
use mathlib.Core.List.{List}
use Prim.Native.Nat.{ℕ, ◌+◌, ◌*◌, ◌<◌}
use native.Mathlib.Omega.{arith}
use lib.Seq.{sets}
use Rattle.model.specs.Bytes.{bytes16, bytes32}
use Rattle.model.specs.Steps.{cell_of}
use Rattle.writing.specs.StepList.{step_of}
use Rattle.writing.specs.PlanBytes.{with_steps}
use Rattle.writing.proofs.CellOrder.{step_of_some}
use Rattle.writing.proofs.PlanStores.{with_one}
use Rattle.writing.proofs.plan.write_share.Goals as goal

-- the one step of a share that is not 0
one-step : (count next interval job share : ℕ) (plan with_cell after : List ℕ)
    → with_cell ≡ sets plan (4 + 2 * next) (bytes16 (cell_of interval job))
    → after ≡ sets with_cell (4 + 2 * count + 4 * next) (bytes32 share)
    → 0 < share → after ≡ with_steps count next (step_of interval job share) plan
one-step count next interval job share plan with_cell after first second some_share =
    rw (second, first, step_of_some interval job share some_share) (with_one count next _ plan)

pub overflow_cast-share : goal.overflow_cast-share
overflow_cast-share c =
    let a = c.args in
    omega (arith, c.type_inv.shares (a.interval * a.jobs + a.job))

pub returns : goal.returns
returns c =
    one-step _ _ _ _ _ _ _ _ c.put16.ensures c.put32.ensures (omega arith)
