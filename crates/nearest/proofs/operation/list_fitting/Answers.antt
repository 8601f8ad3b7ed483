-- `operation::list_fitting` meets its contract: the list is refused where it is too short, and otherwise written (proofs/NearestStages.antt).
-- Assumes nothing.
use mathlib.Core.Path.{refl, ap}
use Prim.Native.Nat.{ℕ, ◌*◌, ◌<◌, ◌≤◌}
use lib.ListN.{length, length-replicate}
use mathlib.Core.List.{List}
use Rattle.model.specs.declared.Job.{Job}
use Rattle.model.specs.Limits.{max_jobs}
use Rattle.job_rooms.specs.RoomArrays.{RoomArrays}
use native.Mathlib.Omega.{arith}
use Rattle.nearest.proofs.NearestStages.{list_short, list_written, room_small}
use Rattle.nearest.proofs.operation.list_fitting.Goals as goal

-- the jobs are few
few-jobs : {jobs : List Job} {bounds times cycles sets last : List ℕ} {count intervals : ℕ}
    → RoomArrays jobs bounds times cycles sets last count intervals → count ≤ max_jobs
few-jobs arrays = omega (arith, arrays.counted, arrays.tests.valid.few)

pub overflow_mul-wanted : goal.overflow_mul-wanted
overflow_mul-wanted c = let (jobs, bounds, arrays, fits) = c.requires.by_index in omega (arith, few-jobs arrays)

pub overflow_cast-wanted : goal.overflow_cast-wanted
overflow_cast-wanted c = let (jobs, bounds, arrays, fits) = c.requires.by_index in omega (arith, few-jobs arrays)

pub returns-then-list-wanted : goal.returns-then-list-wanted
returns-then-list-wanted c = λ jobs bounds arrays fits.
    rw (c.into.ensures, c.at.ensures) (list_short _ _ _ _ (ap (λ (n : ℕ). 2 * n) arrays.counted) c.if-list-wanted.true)

pub job_rooms-requires : goal.job_rooms-requires
job_rooms-requires c = record { by_index = c.requires.by_index; top_le_max_frequency = (c.requires.top_le_max_frequency, length-replicate {A = ℕ} max_jobs 0) }

pub list_rooms-requires : goal.list_rooms-requires
list_rooms-requires c =
    let (jobs, bounds, arrays, fits) = c.requires.by_index in (
      few-jobs arrays,
      c.if-list-wanted.false,
      λ j below.
          let inside : j < length jobs = omega (arith, arrays.counted) in
          rw (c.job_rooms.ensures jobs bounds arrays fits j inside) (omega (arith, room_small _ jobs arrays.tests.valid c.requires.top_le_max_frequency j inside)),
    )

pub returns : goal.returns
returns c = λ jobs bounds arrays fits.
    list_written _ jobs _ c.job_rooms.new.rooms _ _ _ arrays.counted refl c.if-list-wanted.false (c.job_rooms.ensures jobs bounds arrays fits) c.list_rooms.ensures
