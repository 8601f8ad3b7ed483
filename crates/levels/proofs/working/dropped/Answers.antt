use mathlib.Core.Path.{sym, ◌∙◌}
use native.Mathlib.Omega.{arith}
use borrow.Author.Count.{below_none, below_more}
use Rattle.model.specs.Points.{dropped}
use Rattle.model.proofs.Search.{some_below_holds, some_below_fails}
use Rattle.levels.proofs.working.dropped.Goals as goal

pub loop-a-init : goal.loop-a-init
loop-a-init c = (omega arith, below_none _)

pub dropped_from-requires : goal.dropped_from-requires
dropped_from-requires c = record { small_points = c.requires.small_points; a_lt_b = (omega arith, omega arith) }

pub returns-then-dropped_from : goal.returns-then-dropped_from
unfolding dropped
returns-then-dropped_from c = sym (some_below_holds _ _ _ (omega arith) (sym c.dropped_from.ensures ∙ c.if-dropped_from.true))

pub loop-a-preserved : goal.loop-a-preserved
loop-a-preserved c = (
  omega arith,
  below_more _ _ c.loop-a.invariant.1 (sym c.dropped_from.ensures ∙ c.if-dropped_from.false),
)

pub returns : goal.returns
unfolding dropped
returns c = sym (some_below_fails _ _ (λ k below. c.loop-a.invariant.1 k (omega arith)))
