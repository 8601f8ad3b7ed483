use mathlib.Core.Path.{◌≡◌, refl, sym, ◌∙◌}
use mathlib.Core.Bool.{true}
use Prim.Native.Nat.{◌*◌, ◌<◌}
use native.Mathlib.Omega.{arith}
use borrow.Author.Tests.{not-true}
use Rattle.model.specs.Limits.{max_jobs}
use Rattle.job_sets.specs.JobSets.{is_member}
use Rattle.job_sets.proofs.JobSets.{count_without, least_has}
use Rattle.workloads.specs.Arrays.{lent_windows, KeptPast}
use Rattle.workloads.proofs.SharesTable.{kept_refl, kept_trans}
use Rattle.filling.specs.Filling.{FillingTables}
use Rattle.filling.proofs.JobMembers.{rest_below}
use Rattle.filling.proofs.window.fill_set.Goals as goal
use Rattle.filling.proofs.window.fill_set.Goals.{After-least-job, At-loop-rest}

pub loop-rest-init : goal.loop-rest-init
loop-rest-init c = (λ work band prices tables. (kept_refl _ _, tables), c.requires.by_index)

-- what the loop has placed, of the workload that is known
own : (c : At-loop-rest)
    → let a = c.args in
    let known = c.requires.windows_pass in
    KeptPast (known.0.intervals * a.jobs) a.shares.now c.loop-rest.shares
    × FillingTables (lent_windows known.0 a.jobs a.first.now a.last.now) c.loop-rest.shares c.loop-rest.room c.loop-rest.holders
    c.loop-rest.left known.2 known.1 0
own c = let known = c.requires.windows_pass in c.loop-rest.invariant.0 known.0 known.1 known.2 known.3

-- within the loop the least of the rest is a member, and so a job
is_member_true : (c : After-least-job) → is_member c.loop-rest.rest c.least-job.result ≡ true
is_member_true c =
    let some = sym c.is_empty.ensures ∙ not-true _ c.loop-rest-test.true-raw in
    rw c.least-job.ensures (least_has c.loop-rest.rest some).1

job_below : (c : After-least-job) → c.least-job.result < c.args.jobs
job_below c = c.loop-rest.invariant.1 _ (is_member_true c)

job_small : (c : After-least-job) → c.least-job.result < max_jobs
job_small c = omega (arith, job_below c, c.requires.windows_pass.3.stored.sound.jobs_most)

pub offset_bounds-left-job : goal.offset_bounds-left-job
offset_bounds-left-job c = omega (arith, job_small (goal.at.offset_bounds-left-job c).After-least-job)

pub bounds-left-job : goal.bounds-left-job
bounds-left-job c = job_small (goal.at.bounds-left-job c).After-least-job

pub fill_job-requires : goal.fill_job-requires
fill_job-requires c =
    let known = c.requires.windows_pass in
    (known.0, known.1, known.2, c.loop-rest.left, record { job_below = job_below (goal.at.fill_job-requires c).After-least-job; left_is = refl; tables = (own (goal.at.fill_job-requires c).At-loop-rest).1 })

pub offset_bounds-left-job-in-loop-rest : goal.offset_bounds-left-job-in-loop-rest
offset_bounds-left-job-in-loop-rest c = omega (arith, job_small (goal.at.offset_bounds-left-job-in-loop-rest c).After-least-job)

pub bounds-left-job-in-loop-rest : goal.bounds-left-job-in-loop-rest
bounds-left-job-in-loop-rest c = job_small (goal.at.bounds-left-job-in-loop-rest c).After-least-job

pub without-rest-requires : goal.without-rest-requires
without-rest-requires c = job_small (goal.at.without-rest-requires c).After-least-job

pub loop-rest-smaller : goal.loop-rest-smaller
loop-rest-smaller c =
    rw c.without-rest.ensures (omega (arith, count_without c.loop-rest.rest _ (is_member_true (goal.at.loop-rest-smaller c).After-least-job)))

pub loop-rest-preserved : goal.loop-rest-preserved
loop-rest-preserved c = (
  λ work band prices tables.
      let (kept, filling) = c.loop-rest.invariant.0 work band prices tables in
      let (kept_next, next) = c.fill_job.ensures work band prices c.loop-rest.left
      (record { job_below = job_below (goal.at.loop-rest-preserved c).After-least-job; left_is = refl; tables = filling }) in
      (kept_trans kept kept_next, next),
  rest_below _ _ _ _ c.without-rest.ensures c.loop-rest.invariant.1,
)

pub shape_of-shares : goal.shape_of-shares
shape_of-shares c = (own (goal.at.shape_of-shares c).At-loop-rest).0.same_length

pub returns : goal.returns
returns c = c.loop-rest.invariant.0
