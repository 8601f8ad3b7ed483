use mathlib.Core.Path.{◌≡◌}
use native.Mathlib.Omega.{arith}
use lib.ListN.{length, get_or}
use Rattle.model.specs.Bytes.{bytes32}
use Rattle.model.proofs.Bytes.{length_bytes_of}
use Rattle.model.proofs.Entries.{list_of_get_d}
use Rattle.writing.proofs.NumberStores.{numbers_none, length_numbers, numbers_next, numbers_whole}
use Rattle.writing.proofs.numbers.put_column.Goals as goal
use Rattle.writing.proofs.numbers.put_column.Goals.{At-loop-i}

-- what is written keeps the buffer's length
long : (c : At-loop-i) → length c.loop-i.out ≡ length c.args.out.now
long c = length_numbers bytes32 4 (length_bytes_of 4) _ _ _ _ _ c.loop-i.invariant.1

pub loop-i-init : goal.loop-i-init
loop-i-init c = (omega arith, numbers_none bytes32 4 (length_bytes_of 4) _ _ _)

pub put32-requires : goal.put32-requires
put32-requires c = omega (arith, long (goal.at.put32-requires c).At-loop-i)

pub loop-i-preserved : goal.loop-i-preserved
loop-i-preserved c = (omega arith, numbers_next bytes32 4 (length_bytes_of 4) _ _ _ _ _ _ c.loop-i.invariant.1 c.put32.ensures)

pub shape_of-out : goal.shape_of-out
shape_of-out c = long (goal.at.shape_of-out c).At-loop-i

pub returns : goal.returns
returns c =
    let numbers = c.args.numbers.now in
    rw (← list_of_get_d numbers 0)
    (numbers_whole bytes32 4 (length_bytes_of 4) _ (λ k. get_or numbers k 0) _ c.loop-i.i (length numbers) _ c.loop-i.invariant.1 c.loop-i.invariant.0 (omega arith))
