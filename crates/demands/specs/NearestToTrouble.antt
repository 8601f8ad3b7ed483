-- The job nearest to trouble, over the tables in bytes and the calls themselves. Document 02, Change 11: "Before a client lengthens a task, list
-- for each job, as two 32-bit numbers, its number and then the most cycles that can be added to it alone with the set still fitting; one more
-- must make it overfull. The cycle limit of the job table doesn't count here, and added cycles, here and in Change 13, come on top of the cycles
-- with Change 9's margin. Smallest first, ties by job number. An overfull set has no list and gives 11; a lent list under 2n numbers then gives
-- 14." Proved in proofs/NearestToTrouble.antt.
use Rattle.std.specs.Prelude.{ℕ, ◌+◌, ◌-◌, ◌*◌, ◌<◌, ◌≤◌, ◌≡◌, ◌↔◌, ◌⊎◌, List, length, get_or, take, drop, ℤ, negsuc}
use Rattle.std.proofs.Math.Option.{none}
use Rattle.model.specs.declared.Job.{Job}
use Rattle.model.specs.declared.Parameters.{Parameters}
use Rattle.model.specs.Outcome.{refused, answer}
use Rattle.model.specs.Jobs.{job_of}
use Rattle.model.specs.Processors.{top_of}
use Rattle.model.specs.Sites.{Tables, read_tables}
use Rattle.model.specs.Marks.{read_marks}
use Rattle.model.specs.Windows.{cycles_inside, earliest_overfull}
use Rattle.model.specs.Schedules.{Schedule, Serves}
use Rattle.model.specs.Planning.{overfull, planning}
use Rattle.nearest.specs.NearestAnswers.{NearestAnswer, Listed, Overfull, Refused, NearestContract}

-- One call: what it was lent, what it left in the list, and its answer, with the contract that holds of every call.
pub record NearestCall : Type 0 where
  pub level_bytes : List ℕ
  pub job_bytes : List ℕ
  pub parameters : Parameters
  pub before : List ℕ
  pub after : List ℕ
  pub answered : NearestAnswer
  pub contract : NearestContract level_bytes job_bytes parameters before after answered

-- The levels and the jobs of a call, as its parameters alter them: the cycles are those "with Change 9's margin".
abbrev pub ReadAs : NearestCall → Tables → Type 0
ReadAs call tables = read_tables call.level_bytes call.job_bytes call.parameters ≡ answer tables

-- The numbers that a call wrote where it answers so many.
abbrev pub list_written : NearestCall → (size : ℕ) → List ℕ
list_written call size = take size call.after

-- "it alone": the same jobs, of which one has more cycles. There is no highest number of cycles: "The cycle limit of the job table doesn't
-- count here".
pub record Lengthened (jobs longer : List Job) (job added : ℕ) : Type 0 where
  pub as_many : length longer ≡ length jobs
  pub is_job : job < length jobs
  pub same_windows : (j : ℕ) → j < length jobs
      → ((job_of longer j).release ≡ (job_of jobs j).release) × ((job_of longer j).deadline ≡ (job_of jobs j).deadline)
  pub with-added : (job_of longer job).cycles ≡ (job_of jobs job).cycles + added
  pub others_stay : (j : ℕ) → j < length jobs → (j ≡ job → ⊥) → (job_of longer j).cycles ≡ (job_of jobs j).cycles

-- "the set still fitting": no window has more cycles inside than the top frequency gives there, and so some schedule over the levels meets
-- all deadlines.
pub record StillFits (tables : Tables) (longer : List Job) : Type 0 where
  pub no-window : (start end : ℕ) → cycles_inside longer start end ≤ (end - start) * top_of tables.processor
  pub some_schedule : (schedule : Schedule tables.processor.levels longer) × Serves schedule

-- "overfull": some window from a release to a later deadline has more, and no schedule over the levels meets all deadlines.
pub record MadeOverfull (tables : Tables) (longer : List Job) : Type 0 where
  pub a_window : (i : ℕ) × (k : ℕ) × (i < length longer) × (k < length longer) × ((job_of longer i).release < (job_of longer k).deadline)
      × (((job_of longer k).deadline - (job_of longer i).release) * top_of tables.processor
      < cycles_inside longer (job_of longer i).release (job_of longer k).deadline)
  pub no_schedule : (schedule : Schedule tables.processor.levels longer) → Serves schedule → ⊥

-- "the most cycles that can be added to it alone with the set still fitting; one more must make it overfull"
pub record MostCycles (tables : Tables) (job most : ℕ) : Type 0 where
  -- that many, or fewer
  pub can_be_added : (added : ℕ) → added ≤ most
      → (longer : List Job) → Lengthened tables.jobs longer job added → StillFits tables longer
  -- and no more
  pub one_more : (added : ℕ) → most < added
      → (longer : List Job) → Lengthened tables.jobs longer job added → MadeOverfull tables longer
  -- of every number of added cycles there is such a set
  pub such_a_set : (added : ℕ) → (longer : List Job) × Lengthened tables.jobs longer job added

-- The job at a place of a list, and its number of cycles: "its number and then the most cycles".
abbrev pub job_at : (list : List ℕ) → (place : ℕ) → ℕ
job_at list p = get_or list (2 * p) 0

abbrev pub cycles_at : (list : List ℕ) → (place : ℕ) → ℕ
cycles_at list p = get_or list (2 * p + 1) 0

-- "list for each job .. Smallest first, ties by job number."
pub record NearestFirst (tables : Tables) (list : List ℕ) : Type 0 where
  pub two_numbers : length list ≡ 2 * length tables.jobs
  -- each job has a place, and one only, and there is nothing else; a job to which nothing can be added has one too
  pub each_job : (j : ℕ) → j < length tables.jobs → (p : ℕ) × (p < length tables.jobs) × (job_at list p ≡ j)
  pub nothing_else : (p : ℕ) → p < length tables.jobs → job_at list p < length tables.jobs
  pub once : (p q : ℕ) → p < length tables.jobs → q < length tables.jobs → job_at list p ≡ job_at list q → p ≡ q
  -- with the most cycles that can be added to it
  pub most : (p : ℕ) → p < length tables.jobs → MostCycles tables (job_at list p) (cycles_at list p)
  pub smallest_first : (p q : ℕ) → p < q → q < length tables.jobs
      → (cycles_at list p < cycles_at list q) ⊎ ((cycles_at list p ≡ cycles_at list q) × (job_at list p < job_at list q))
  -- "as two 32-bit numbers"
  pub small : (p : ℕ) → p < length tables.jobs → cycles_at list p ≤ 1_000_000_000

-- A list comes out: it is the one, it stands at the start of the lent list, and the rest stays.
pub record ListComesOut (call : NearestCall) (tables : Tables) (size : ℕ) : Type 0 where
  pub size_is : size ≡ 2 * length tables.jobs
  pub long_enough : size ≤ length call.before
  pub nearest_first : NearestFirst tables (list_written call size)
  pub same_length : length call.after ≡ length call.before
  pub rest_stays : drop size call.after ≡ drop size call.before

-- "An overfull set has no list and gives 11": the window and the spare are those that planning answers for the same tables, with any marks and
-- any buffers; the list is as it was.
pub record NoList (call : NearestCall) (start end : ℕ) (spare : ℤ) : Type 0 where
  pub tables : Tables
  pub read : ReadAs call tables
  pub needs_more : (end - start) * top_of tables.processor < cycles_inside tables.jobs start end
  pub negative : (n : ℕ) × (spare ≡ negsuc n)
  pub no_schedule : (schedule : Schedule tables.processor.levels tables.jobs) → Serves schedule → ⊥
  pub untouched : call.after ≡ call.before

-- A refused call, and what it is refused by.
pub record RefusedCall (call : NearestCall) (number place : ℕ) : Type 0 where
  pub refusal : call.answered ≡ Refused number place
  pub untouched : call.after ≡ call.before

pub record NearestToTrouble : Type 0 where
  -- a list comes out exactly where the tables are read, the set fits and the lent list has 2n numbers
  pub listed : (call : NearestCall) (tables : Tables) → ReadAs call tables
      → (size : ℕ) → call.answered ≡ Listed size → ListComesOut call tables size
  pub exactly_when : (call : NearestCall) (tables : Tables) → ReadAs call tables
      → ((size : ℕ) × (call.answered ≡ Listed size))
      ↔ ((earliest_overfull (top_of tables.processor) tables.jobs ≡ none) × (2 * length tables.jobs ≤ length call.before))
  -- and there is one such list only
  pub one_list : (call : NearestCall) (tables : Tables) → ReadAs call tables
      → (one two : List ℕ) → NearestFirst tables one → NearestFirst tables two → one ≡ two
  -- "An overfull set has no list and gives 11"
  pub overfull_set : (call : NearestCall) (start end : ℕ) (spare : ℤ) → call.answered ≡ Overfull start end spare
      → NoList call start end spare
  pub window_of_planning : (call : NearestCall) (start end : ℕ) (spare : ℤ) → call.answered ≡ Overfull start end spare
      → (mark_bytes ticks : List ℕ) → read_marks mark_bytes ≡ answer ticks → (plan_room price_room share_room : ℕ)
      → planning call.level_bytes call.job_bytes mark_bytes call.parameters plan_room price_room share_room ≡ overfull start end spare
  -- "a lent list under 2n numbers then gives 14", with 2n as its place
  pub short_list : (call : NearestCall) (tables : Tables) → ReadAs call tables
      → earliest_overfull (top_of tables.processor) tables.jobs ≡ none
      → length call.before < 2 * length tables.jobs → RefusedCall call 14 (2 * length tables.jobs)
  -- tables and parameters that are refused are refused so, before all else
  pub tables_first : (call : NearestCall) (number place : ℕ)
      → read_tables call.level_bytes call.job_bytes call.parameters ≡ refused number place
      → RefusedCall call number place
  -- no call is shut out: whatever it was lent, it is such a call
  pub every_call : (level_bytes job_bytes : List ℕ) (parameters : Parameters) (before after : List ℕ) (answered : NearestAnswer)
      → NearestContract level_bytes job_bytes parameters before after answered
      → (call : NearestCall) × (call.level_bytes ≡ level_bytes) × (call.job_bytes ≡ job_bytes) × (call.parameters ≡ parameters)
      × (call.before ≡ before) × (call.after ≡ after) × (call.answered ≡ answered)
