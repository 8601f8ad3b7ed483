use mathlib.Core.Path.{◌≡◌, refl, sym, ◌∙◌}
use Prim.Native.Nat.{◌+◌, ◌<◌}
use native.Mathlib.Omega.{arith}
use lib.ListN.{get_or}
use Rattle.model.specs.Limits.{max_jobs}
use Rattle.job_sets.specs.JobSets.{member_count, without_job}
use Rattle.windows.specs.RunningSums.{total_over}
use Rattle.windows.proofs.SetTotals.{total_empty, count_empty, total_turn}
use Rattle.windows.proofs.sums.add_jobs.Goals as goal
use Rattle.windows.proofs.sums.add_jobs.Goals.{After-least-job}

-- within the loop a member is left, and the least is taken out
turn : (c : After-least-job)
    → let job = c.least-job.result in
    let rest = c.loop-rest.rest in
    let numbers = c.args.cycles.now in
    (job < max_jobs) × (total_over rest numbers ≡ total_over (without_job rest job) numbers + get_or numbers job 0)
    × (member_count rest ≡ member_count (without_job rest job) + 1)
turn c =
    let some = sym c.is_empty.ensures ∙ c.loop-rest-test.true in
    total_turn _ _ _ _ some c.least-job.ensures refl

pub loop-rest-init : goal.loop-rest-init
loop-rest-init c = (refl, refl)

pub offset_bounds-cycles-job : goal.offset_bounds-cycles-job
offset_bounds-cycles-job c = omega (arith, turn (goal.at.offset_bounds-cycles-job c).After-least-job)

pub bounds-cycles-job : goal.bounds-cycles-job
bounds-cycles-job c = (turn (goal.at.bounds-cycles-job c).After-least-job).0

pub overflow_add-sum : goal.overflow_add-sum
overflow_add-sum c = omega (arith, turn (goal.at.overflow_add-sum c).After-least-job, c.loop-rest.invariant, c.requires)

pub overflow_add-additions : goal.overflow_add-additions
overflow_add-additions c = omega (arith, turn (goal.at.overflow_add-additions c).After-least-job, c.loop-rest.invariant, c.requires)

pub without-rest-requires : goal.without-rest-requires
without-rest-requires c = (turn (goal.at.without-rest-requires c).After-least-job).0

pub loop-rest-smaller : goal.loop-rest-smaller
loop-rest-smaller c = rw c.without-rest.ensures (omega (arith, turn (goal.at.loop-rest-smaller c).After-least-job))

pub loop-rest-preserved : goal.loop-rest-preserved
loop-rest-preserved c =
    let before = c.loop-rest.invariant in
    rw c.without-rest.ensures (omega (arith, turn (goal.at.loop-rest-preserved c).After-least-job, before), omega (arith, turn (goal.at.loop-rest-preserved c).After-least-job, before))

pub returns : goal.returns
returns c =
    let empty = sym c.is_empty.ensures ∙ c.loop-rest-test.false in
    let inv = c.loop-rest.invariant in
    (omega (arith, inv, total_empty _ c.args.cycles.now empty), omega (arith, inv, count_empty _ empty))
