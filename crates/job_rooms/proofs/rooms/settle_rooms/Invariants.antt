-- `rooms::settle_rooms` meets its contract. The loop's invariant: the jobs that are not in the rest are settled (proofs/SettleSteps.antt).
-- Assumes nothing.
use Rattle.job_sets.specs.JobSets.{member_count}
use Rattle.job_rooms.proofs.SettleSteps.{Settling}
use Rattle.job_rooms.proofs.rooms.settle_rooms.Given as goal

abbrev pub invariant-loop-rest : goal.invariant-loop-rest
invariant-loop-rest l = Settling l.initial.rest l.last l.cycles l.intervals l.spares l.initial.due l.initial.rooms l.due l.rooms l.rest

abbrev pub decreases-loop-rest : goal.decreases-loop-rest
decreases-loop-rest l = member_count l.rest
