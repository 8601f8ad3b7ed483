use mathlib.Core.Path.{◌≡◌, refl}
use Prim.Native.Nat.{◌*◌, ◌<◌}
use native.Mathlib.Omega.{arith}
use Rattle.model.specs.Limits.{max_jobs}
use Rattle.workloads.specs.Arrays.{lent_windows, KeptPast}
use Rattle.workloads.proofs.SharesTable.{kept_refl, kept_trans}
use Rattle.planner.specs.BandPasses.{CanRaise}
use Rattle.planner.proofs.moving.move_jobs.Goals as goal
use Rattle.planner.proofs.moving.move_jobs.Goals.{At-loop-job, In-loop-job}

pub loop-job-init : goal.loop-job-init
loop-job-init c = (omega arith, λ work can. (kept_refl _ _, can))

-- where the pass is, of the workload that is known
own : (c : At-loop-job)
    → let a = c.args in
    let known = c.requires in
    KeptPast (known.0.intervals * a.jobs) a.shares.now c.loop-job.shares
    × CanRaise (lent_windows known.0 a.jobs a.first.now a.last.now) c.loop-job.shares c.loop-job.room c.loop-job.holders
    c.loop-job.prices c.loop-job.left a.band c.loop-job.job
own c = let known = c.requires in c.loop-job.invariant.1 known.0 known.1

job_small : (c : In-loop-job) → c.loop-job.job < max_jobs
job_small c = omega (arith, c.loop-job-test.true, c.requires.1.tables.stored.sound.jobs_most)

pub offset_bounds-left-job : goal.offset_bounds-left-job
offset_bounds-left-job c = omega (arith, job_small (goal.at.offset_bounds-left-job c).In-loop-job)

pub bounds-left-job : goal.bounds-left-job
bounds-left-job c = job_small (goal.at.bounds-left-job c).In-loop-job

pub move_job-requires : goal.move_job-requires
move_job-requires c =
    (c.requires.0, c.loop-job.left, record { job_below = c.loop-job-test.true; left_is = refl; can = (own (goal.at.move_job-requires c).At-loop-job).1 })

pub offset_bounds-left-job-in-loop-job : goal.offset_bounds-left-job-in-loop-job
offset_bounds-left-job-in-loop-job c = omega (arith, job_small (goal.at.offset_bounds-left-job-in-loop-job c).In-loop-job)

pub bounds-left-job-in-loop-job : goal.bounds-left-job-in-loop-job
bounds-left-job-in-loop-job c = job_small (goal.at.bounds-left-job-in-loop-job c).In-loop-job

pub loop-job-preserved : goal.loop-job-preserved
loop-job-preserved c = (
  omega (arith, c.loop-job-test.true),
  λ work can.
      let (kept, raising) = c.loop-job.invariant.1 work can in
      let (kept_next, next) = c.move_job.ensures work c.loop-job.left
      (record { job_below = c.loop-job-test.true; left_is = refl; can = raising }) in
      (kept_trans kept kept_next, next),
)

pub shape_of-shares : goal.shape_of-shares
shape_of-shares c = (own (goal.at.shape_of-shares c).At-loop-job).0.same_length

pub returns : goal.returns
returns c =
    let all : c.loop-job.job ≡ c.args.jobs = omega (arith, c.loop-job.invariant.0, c.loop-job-test.false) in
    rw all at c.loop-job.invariant.1
