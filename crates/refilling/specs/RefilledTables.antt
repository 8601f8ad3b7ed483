-- What filling loads anew asks and promises, in plain arrays.
use Rattle.std.specs.Prelude.{ℕ, ◌*◌, ◌^◌, ◌<◌, ◌≡◌, List, length}
use Rattle.model.specs.Limits.{max_jobs}
use Rattle.model.specs.Sum.{sum}
use Rattle.model.specs.Plans.{shares_in}
use Rattle.workloads.specs.Workloads.{Workload}
use Rattle.workloads.specs.Arrays.{numbers_in, problem_in, SoundWorkload, Stored, Holding, KeptPast}
use Rattle.loads.specs.Loads.{Serving}
use Rattle.loads.specs.Refilled.{Refilled}
use Rattle.refilling.specs.RefillTables.{OpenSets}

-- A table has the shares of a plan, with the loads and the sets of the jobs with a share beside it. All cycles together fit 32 bits.
pub record CanRefill (work : Workload) (sets table loads holders : List ℕ) : Type 0 where
  pub sound : SoundWorkload work
  pub open-sets : OpenSets work sets
  pub cycles_length : length work.cycles ≡ max_jobs
  pub cycles_small : sum work.jobs (numbers_in work.cycles) < 2 ^ 32
  pub serving : Serving (problem_in work) (shares_in work.jobs table)
  pub stored : Stored work table loads
  pub holding : Holding (problem_in work) (shares_in work.jobs table) holders

-- The same loads are filled anew, in few steps.
pub record RefilledTables (work : Workload) (before loads table holders : List ℕ) : Type 0 where
  pub kept : KeptPast (work.intervals * work.jobs) before table
  pub stored : Stored work table loads
  pub holding : Holding (problem_in work) (shares_in work.jobs table) holders
  pub refilled : Refilled (problem_in work) (numbers_in loads) (shares_in work.jobs table)
