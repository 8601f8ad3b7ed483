-- Cycles added to one job (document 02, Change 11): "the most cycles that can be added to it alone with the set still fitting; one more
-- must make it overfull. The cycle limit of the job table doesn't count here". The room of a job is that number. The laws are proved in
-- proofs/AddedCycles.antt.
use Rattle.std.specs.Prelude.{ℕ, suc, ◌+◌, ◌-◌, ◌*◌, ◌<◌, ◌≤◌, ◌≡◌, Bool, true, false, List, length, set}
use Rattle.std.proofs.Math.Option.{Option, none, some}
use Rattle.model.specs.declared.Job.{Job}
use Rattle.model.specs.Jobs.{job_of}
use Rattle.model.specs.Search.{first_below}
use Rattle.model.specs.Windows.{Window, cycles_inside, earliest_overfull}

-- A job with cycles added to those that it has, and job number j of a table with them. All others stay as they are.
abbrev pub longer_job : Job → (added : ℕ) → Job
longer_job job added = record { release = job.release; deadline = job.deadline; cycles = job.cycles + added }

unfoldable pub with_added : List Job → (j added : ℕ) → List Job
with_added jobs j added = set jobs j (longer_job (job_of jobs j) added)

-- The set is overfull where some window is, as 11 has it; otherwise it fits.
abbrev pub is_found : Option Window → Bool
is_found none = false
is_found (some window) = true

abbrev pub is_overfull_set : (top : ℕ) → List Job → Bool
is_overfull_set top jobs = is_found (earliest_overfull top jobs)

-- The room of job j: the first number of added cycles of which one more makes the set overfull. It is below what the top frequency gives in
-- the job's own window, since the job has a cycle already.
unfoldable pub room_of : (top : ℕ) → List Job → (j : ℕ) → ℕ
room_of top jobs j =
    first_below (((job_of jobs j).deadline - (job_of jobs j).release) * top)
    (λ added. is_overfull_set top (with_added jobs j (suc added)))

-- What the theory asks of jobs here: they are released before their deadlines, and have cycles. There is no highest number of cycles.
pub record SoundJobs (jobs : List Job) : Type 0 where
  pub ordered : (j : ℕ) → j < length jobs → (job_of jobs j).release < (job_of jobs j).deadline
  pub some-cycles : (j : ℕ) → j < length jobs → 1 ≤ (job_of jobs j).cycles

-- So many cycles can be added, and fewer; and with more the set is overfull.
pub record MostAdded (top : ℕ) (jobs : List Job) (j most : ℕ) : Type 0 where
  pub still_fits : (added : ℕ) → added ≤ most → earliest_overfull top (with_added jobs j added) ≡ none
  pub then_overfull : (added : ℕ) → most < added → (window : Window) × (earliest_overfull top (with_added jobs j added) ≡ some window)

-- Of a fitting set the room of each job is the most that can be added to it.
abbrev pub RoomIsMost : Type 0
RoomIsMost =
    (top : ℕ) (jobs : List Job) → SoundJobs jobs → earliest_overfull top jobs ≡ none
    → (j : ℕ) → j < length jobs → MostAdded top jobs j (room_of top jobs j)

-- The least spare of the windows that have job j inside: no window from a release at or before its own to a deadline at or after its own has
-- less, and some window that has it inside has as much.
pub record LeastSpare (top : ℕ) (jobs : List Job) (j spare : ℕ) : Type 0 where
  pub lowest : (i k : ℕ) → i < length jobs → k < length jobs
      → (job_of jobs i).release ≤ (job_of jobs j).release → (job_of jobs j).deadline ≤ (job_of jobs k).deadline
      → cycles_inside jobs (job_of jobs i).release (job_of jobs k).deadline + spare ≤ ((job_of jobs k).deadline - (job_of jobs i).release) * top
  pub met : (start end : ℕ) × (start ≤ (job_of jobs j).release) × ((job_of jobs j).deadline ≤ end)
      × (cycles_inside jobs start end + spare ≡ (end - start) * top)

-- The room of a job is that least spare: cycles added to it come into the windows that have it inside, and into no others.
abbrev pub RoomIsLeastSpare : Type 0
RoomIsLeastSpare =
    (top : ℕ) (jobs : List Job) → SoundJobs jobs → earliest_overfull top jobs ≡ none
    → (j : ℕ) → j < length jobs → (spare : ℕ) → LeastSpare top jobs j spare → room_of top jobs j ≡ spare
