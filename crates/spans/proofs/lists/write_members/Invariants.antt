-- `lists::write_members` meets its contract. The loop's invariant: with the rest stored from the next place on, the list is the one
-- with all members (proofs/MemberStores.antt). Assumes nothing.
use Rattle.job_sets.specs.JobSets.{member_count}
use Rattle.spans.proofs.MemberStores.{MembersPut}
use Rattle.spans.proofs.lists.write_members.Given as goal

abbrev pub invariant-loop-rest : goal.invariant-loop-rest
invariant-loop-rest l = MembersPut l.base l.first l.initial.list l.initial.rest l.list l.next l.rest

abbrev pub decreases-loop-rest : goal.decreases-loop-rest
decreases-loop-rest l = member_count l.rest
