use mathlib.Core.Path.{◌≡◌}
use Prim.Native.Nat.{◌<◌, ◌≤◌}
use native.Mathlib.Omega.{arith}
use Rattle.model.specs.Limits.{max_jobs, max_intervals}
use Rattle.workloads.specs.Arrays.{numbers_in}
use Rattle.workloads.proofs.JobWindows.{window_small}
use Rattle.prices.proofs.RisePasses.{pass_start, pass_raised, pass_settled}
use Rattle.prices.proofs.smallest.raise_jobs.Goals as goal
use Rattle.prices.proofs.smallest.raise_jobs.Goals.{After-way_told-1, then-raise_window, else-raise_window}

pub loop-job-init : goal.loop-job-init
loop-job-init c = (omega arith, λ work table can. pass_start can.rise)

-- the job's number fits the arrays
below : (c : After-way_told-1) → c.loop-job.job < max_jobs
below c = omega (arith, c.requires.2.rise.sound.jobs_most)

-- its window is among the intervals
window : (c : After-way_told-1)
    → let a = c.args in
    let job = c.loop-job.job in
    (numbers_in a.first.now job < max_intervals) × (numbers_in a.last.now job ≤ max_intervals)
window c =
    let sound = c.requires.2.rise.sound in
    window_small sound.sound sound.intervals_most c.loop-job-test.true

pub bounds-first-job : goal.bounds-first-job
bounds-first-job c = below (goal.at.bounds-first-job c).After-way_told-1

pub overflow_cast-first : goal.overflow_cast-first
overflow_cast-first c = omega (arith, (window (goal.at.overflow_cast-first c).After-way_told-1).0)

pub bounds-last-job : goal.bounds-last-job
bounds-last-job c = below (goal.at.bounds-last-job c).After-way_told-1

pub overflow_cast-last : goal.overflow_cast-last
overflow_cast-last c = omega (arith, (window (goal.at.overflow_cast-last c).After-way_told-1).1)

pub bounds-highest-job : goal.bounds-highest-job
bounds-highest-job c = below (goal.at.bounds-highest-job c).After-way_told-1

pub raise_window-requires : goal.raise_window-requires
raise_window-requires c =
    let can = c.requires.2 in
    let sound = can.rise.sound in
    let exists = c.loop-job-test.true in (
      omega (arith, sound.sound.window _ exists),
      omega (arith, sound.sound.inside _ exists, sound.intervals_most),
      (c.loop-job.invariant.1 c.requires.0 c.requires.1 can).prices_length,
    )

pub loop-job-preserved : goal.loop-job-preserved
loop-job-preserved c =
    let pass = c.loop-job.invariant.1 in
    let exists = c.loop-job-test.true in
    let step = c.raise_window.ensures in (
      omega (arith, exists),
      λ work table can.
          elim c.if-raise_window.branch [
            | then-raise_window w ↦ rw w.changed-is (pass_raised can.rise (pass work table can) exists (can.each _ exists) step w.if-raise_window.true)
            | else-raise_window w ↦ rw w.changed-is (pass_settled can.rise (pass work table can) exists (can.each _ exists) step w.if-raise_window.false)
          ],
    )

pub returns : goal.returns
returns c =
    let all : c.loop-job.job ≡ c.args.jobs = omega arith in
    rw all at c.loop-job.invariant.1
