use Rattle.task_tables.proofs.FoundMultiples.{first_candidate, next_candidate, candidate_found, candidate_above}
use Rattle.task_tables.proofs.multiple.first_multiple.Goals as goal

pub loop-multiple-init : goal.loop-multiple-init
loop-multiple-init c = first_candidate _ _

pub returns-then-multiple-divisor-eq0 : goal.returns-then-multiple-divisor-eq0
returns-then-multiple-divisor-eq0 c =
    candidate_found _ _ c.requires.0 _ c.loop-multiple.invariant c.loop-multiple-test.true c.if-multiple-divisor-eq0.true

pub loop-multiple-preserved : goal.loop-multiple-preserved
loop-multiple-preserved c = next_candidate _ _ _ c.loop-multiple.invariant c.if-multiple-divisor-eq0.false

pub returns : goal.returns
returns c = candidate_above _ _ _ c.loop-multiple.invariant c.loop-multiple-test.false
