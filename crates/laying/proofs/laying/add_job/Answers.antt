-- `laying::add_job` meets its contract. Assumes nothing.
use mathlib.Core.Path.{refl}
use Rattle.laying.proofs.ListedJobs.{put_stored, stored_room}
use Rattle.laying.proofs.laying.add_job.Goals as goal

pub returns-then-number-lt-MAX_JOBS : goal.returns-then-number-lt-MAX_JOBS
returns-then-number-lt-MAX_JOBS c =
    let arrays = c.requires.job_arrays in
    let room = c.if-number-lt-MAX_JOBS.true in
    record {
      arrays = stored_room _ _ _ _ _ _ _ arrays;
      release = put_stored _ _ _ _ arrays.releases_room room refl;
      deadline = put_stored _ _ _ _ arrays.deadlines_room room refl;
      cycle_count = put_stored _ _ _ _ arrays.cycles_room room refl;
    }
