use mathlib.Core.Path.{◌≡◌, ◌∙◌}
use Prim.Native.Nat.{ℕ, ◌+◌, ◌-◌, max}
use native.Mathlib.Omega.{arith}
use lib.ListN.{length, length-set}
use lib.Seq.{get_or-set_other}
use borrow.Author.Count.{below_none}
use Rattle.std.proofs.Common.{rules}
use Rattle.std.proofs.lemmas.List.{places}
use Rattle.std.proofs.lemmas.List.Edits.{length-between, get_or-between}
use Rattle.workloads.specs.Arrays.{numbers_in}
use Rattle.workloads.proofs.StoredNumbers.{stored_more}
use Rattle.prices.proofs.RaisedPrices.{raised_part}
use Rattle.prices.proofs.ranges.raise.Goals as goal

pub loop-here-init : goal.loop-here-init
loop-here-init c =
    let a = c.args in
    (below_none _, λ k from inside. get_or-between a.prices.now a.start a.end k 0 (omega (arith, length-between {X = ℕ})))

pub loop-here-preserved : goal.loop-here-preserved
loop-here-preserved c =
    let a = c.args in
    let items = c.loop-here.here-items in
    let k = c.loop-here.here-index in
    let inv = c.loop-here.invariant in
    let same : numbers_in items k ≡ numbers_in a.prices.now (a.start + k) = inv.1 k (omega arith) (omega arith) in (
      stored_more (λ n value. value ≡ max (numbers_in a.prices.now (a.start + n)) a.price) items k _ (omega arith) inv.0 (omega (arith, same, c.max.ensures)),
      λ n past within. get_or-set_other items k n _ 0 (λ e. omega arith) ∙ inv.1 n (omega arith) (omega (arith, length-set {A = ℕ})),
    )

pub returns : goal.returns
returns c =
    let a = c.args in
    let items = c.loop-here.here-items in
    let long : length items ≡ a.end - a.start = omega (arith, length-between {X = ℕ}) in (
      raised_part a.start a.end a.price a.prices.now items (omega arith) (omega arith) long (λ k below. c.loop-here.invariant.0 k (omega arith)),
      search (rules, places),
    )
