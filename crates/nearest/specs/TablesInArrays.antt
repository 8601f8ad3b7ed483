-- Tables that were read, in the arrays that the operation works on.
use Rattle.std.specs.Prelude.{ℕ, ◌≤◌, ◌≡◌, List}
use Rattle.model.specs.Limits.{max_frequency}
use Rattle.model.specs.Jobs.{ValidJobs}
use Rattle.model.specs.Processors.{ValidProcessor, top_of}
use Rattle.model.specs.Sites.{Tables}
use Rattle.job_tables.specs.Tables.{jobs_in}
use Rattle.job_rooms.specs.RoomArrays.{RoomArrays}

-- What holds of all tables that are read.
pub record ValidPair (tables : Tables) : Type 0 where
  pub processor : ValidProcessor tables.processor
  pub jobs : ValidJobs tables.jobs

-- The top frequency, the jobs as they were read, and what the window test and the rooms are lent.
pub record InArrays (tables : Tables) (bounds : List ℕ) (count top : ℕ) (releases deadlines cycles times : List ℕ) (intervals : ℕ)
    (last sets : List ℕ) : Type 0 where
  pub top_is : top ≡ top_of tables.processor
  pub top_small : top ≤ max_frequency
  pub jobs_are : jobs_in count releases deadlines cycles ≡ tables.jobs
  pub rooms : RoomArrays tables.jobs bounds times cycles sets last count intervals
