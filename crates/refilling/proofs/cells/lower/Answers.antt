use mathlib.Core.Path.{◌≡◌, ◌∙◌}
use Prim.Native.Nat.{ℕ, ◌+◌, ◌-◌, ◌<◌}
use native.Mathlib.Omega.{arith}
use lib.ListN.{length, length-set}
use lib.Seq.{get_or-set_other}
use borrow.Author.Count.{below_none}
use Rattle.refilling.proofs.CellSteps.{lowered_part}
use Rattle.std.proofs.Common.{rules}
use Rattle.std.proofs.lemmas.List.{places}
use Rattle.std.proofs.lemmas.List.Edits.{length-between, get_or-between}
use Rattle.workloads.specs.Arrays.{numbers_in}
use Rattle.workloads.proofs.StoredNumbers.{stored_more}
use Rattle.refilling.proofs.cells.lower.Goals as goal
use Rattle.refilling.proofs.cells.lower.Goals.{In-loop-crossing}

pub loop-crossing-init : goal.loop-crossing-init
loop-crossing-init c =
    let a = c.args in
    (below_none _, λ k from inside. get_or-between a.cross.now (a.interval + 1) a.last k 0 (omega (arith, length-between {X = ℕ})))

-- the bound of this turn, whose cross is as it was
turn-knows : (c : In-loop-crossing)
    → let a = c.args in
    let k = c.loop-crossing.crossing-index in
    (a.interval + 1 + k < a.last) × (numbers_in c.loop-crossing.crossing-items k ≡ numbers_in a.cross.now (a.interval + 1 + k))
turn-knows c =
    let k = c.loop-crossing.crossing-index in
    (omega (arith, length-between {X = ℕ}), c.loop-crossing.invariant.1 k (omega arith) (omega arith))

pub overflow_sub-crossing : goal.overflow_sub-crossing
overflow_sub-crossing c =
    let (inside, same) = turn-knows (goal.at.overflow_sub-crossing c).In-loop-crossing in
    omega (arith, same, c.requires.by_index (c.args.interval + 1 + c.loop-crossing.crossing-index) (omega arith) inside)

pub loop-crossing-preserved : goal.loop-crossing-preserved
loop-crossing-preserved c =
    let (inside, same) = turn-knows (goal.at.loop-crossing-preserved c).In-loop-crossing in
    let a = c.args in
    let items = c.loop-crossing.crossing-items in
    let k = c.loop-crossing.crossing-index in
    let inv = c.loop-crossing.invariant in (
      stored_more (λ n value. value + a.amount ≡ numbers_in a.cross.now (a.interval + 1 + n)) items k _ (omega arith) inv.0
          (omega (arith, same, c.requires.by_index (a.interval + 1 + k) (omega arith) inside)),
      λ n past within. get_or-set_other items k n _ 0 (λ e. omega arith) ∙ inv.1 n (omega arith) (omega (arith, length-set {A = ℕ})),
    )

pub returns : goal.returns
returns c =
    let a = c.args in
    let items = c.loop-crossing.crossing-items in
    let long : length items ≡ a.last - (a.interval + 1) = omega (arith, length-between {X = ℕ}) in (
      lowered_part a.interval a.last a.amount a.cross.now items (omega arith) (omega arith) long (λ k below. c.loop-crossing.invariant.0 k (omega arith)),
      search (rules, places),
    )
