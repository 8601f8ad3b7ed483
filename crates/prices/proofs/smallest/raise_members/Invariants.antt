-- `smallest::raise_members` meets its contract. The loop's invariant: the numbers of the members that are not in the rest are raised, and
-- all others are as they were. Assumes nothing.
use Rattle.job_sets.specs.JobSets.{member_count}
use Rattle.prices.proofs.MemberRaises.{RaisedSoFar}
use Rattle.prices.proofs.smallest.raise_members.Given as goal

abbrev pub invariant-loop-rest : goal.invariant-loop-rest
invariant-loop-rest l = RaisedSoFar l.initial.rest l.rest l.price l.initial.highest l.highest

abbrev pub decreases-loop-rest : goal.decreases-loop-rest
decreases-loop-rest l = member_count l.rest
