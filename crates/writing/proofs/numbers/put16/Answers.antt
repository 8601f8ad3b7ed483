-- `numbers::put16` meets its contract. The two stores are the two bytes of a number. Assumes nothing.
use native.Mathlib.Numerals.{add-one}
use native.Mathlib.Omega.{arith}
use lib.ListN.{length-set}
use Rattle.model.specs.Bytes.{bytes_of}
use Rattle.writing.proofs.numbers.put16.Goals as goal

pub bounds-out-place-2 : goal.bounds-out-place-2
bounds-out-place-2 c = simp length-set (omega arith)

pub returns : goal.returns
unfolding bytes_of
returns c = rw add-one
