-- The job nearest to trouble (document 02, Change 11): "Before a client lengthens a task, list for each job, as two 32-bit numbers, its number
-- and then the most cycles that can be added to it alone with the set still fitting; one more must make it overfull. The cycle limit of the job
-- table doesn't count here, and added cycles .. come on top of the cycles with Change 9's margin. Smallest first, ties by job number. An
-- overfull set has no list and gives 11; a lent list under 2n numbers then gives 14."
use Rattle.std.specs.Prelude.{ℕ, ◌*◌, ◌≡◌, ◌⊎◌, List, length}
use Rattle.model.specs.declared.Job.{Job}
use Rattle.model.specs.declared.Parameters.{Parameters}
use Rattle.model.specs.Outcome.{From}
use Rattle.model.specs.Processors.{top_of}
use Rattle.model.specs.Sites.{Tables, read_tables, TableNumbers}
use Rattle.spans.specs.SpanAnswers.{listed}
use Rattle.room_order.specs.RoomOrder.{room_list}
use Rattle.job_rooms.specs.AddedCycles.{room_of}
use Rattle.job_rooms.specs.SetOutcomes.{SetOutcome, refusal, overfull, answered, after_tables, unless_overfull, wants}

-- For each job its number and its room, the smallest room first, ties by job number.
abbrev pub nearest_list : (top : ℕ) → List Job → List ℕ
nearest_list top jobs = room_list (room_of top jobs) (length jobs)

-- "a lent list under 2n numbers then gives 14", with the length wanted as its place.
unfoldable pub list_fitting : (top : ℕ) → List Job → (room : ℕ) → SetOutcome (List ℕ)
list_fitting top jobs room =
    wants 14 (2 * length jobs) room
    (answered (nearest_list top jobs))

-- 11, then 14.
unfoldable pub nearest_for : Tables → (room : ℕ) → SetOutcome (List ℕ)
nearest_for tables room =
    unless_overfull tables
    (list_fitting (top_of tables.processor) tables.jobs room)

-- Levels, jobs, 35 and 36, then 11 and 14. It cuts no intervals, and takes no marks.
unfoldable pub nearest : (level_bytes job_bytes : List ℕ) → Parameters → (room : ℕ) → SetOutcome (List ℕ)
nearest level_bytes job_bytes parameters room =
    after_tables (read_tables level_bytes job_bytes parameters) λ tables.
    nearest_for tables room

-- What the lent list holds afterwards. A refused call changes nothing, and neither does one that answers an overfull window.
abbrev pub list_after : SetOutcome (List ℕ) → (before : List ℕ) → List ℕ
list_after (refusal number place) before = before
list_after (overfull start end spare) before = before
list_after (answered list) before = listed list before

-- The numbers that the operation refuses by, beside 11, which is a case of its own: those of the tables and the parameters, and 14.
abbrev pub NearestNumbers : ℕ → Type 0
NearestNumbers number = TableNumbers number ⊎ From 14 14 number

-- Proved in proofs/NearestRefusals.antt.
abbrev pub NearestRefuses : Type 0
NearestRefuses =
    (level_bytes job_bytes : List ℕ) (parameters : Parameters) (room number place : ℕ)
    → nearest level_bytes job_bytes parameters room ≡ refusal number place → NearestNumbers number
