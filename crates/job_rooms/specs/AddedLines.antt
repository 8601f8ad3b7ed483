-- The room of each job of some small sets, with the top frequency 4 of document 01's level pair T, as one table. That every line holds is one
-- statement, proved in proofs/AddedLines.antt by computing the definitions.
use Rattle.std.specs.Prelude.{ℕ, ◌≡◌, List, [], ◌∷◌, length}
use Rattle.model.specs.declared.Job.{Job}
use Rattle.model.specs.Entries.{list_of}
use Rattle.model.specs.SiteLines.{job}
use Rattle.job_rooms.specs.AddedCycles.{room_of}

-- the rooms of all jobs, by job number
abbrev rooms : List Job → List ℕ
rooms jobs = list_of (length jobs) (room_of 4 jobs)

pub record AddedLines : Type 0 where
  pub no-jobs : rooms [] ≡ []
  -- one job alone: its window less its own cycles, down to none
  pub one-job : rooms (job 0 1 1 ∷ []) ≡ 3 ∷ []
  pub full : rooms (job 0 1 4 ∷ []) ≡ 0 ∷ []
  -- document 01's listed site: job 1 fills its window, and job 0 has what is left of the whole time
  pub listed : rooms (job 0 4 6 ∷ job 2 3 4 ∷ []) ≡ 6 ∷ 0 ∷ []
  -- a window that has another job inside counts, and not the job's own alone: job 1 has 3 there
  pub tied : rooms (job 0 2 4 ∷ job 1 2 1 ∷ []) ≡ 3 ∷ 3 ∷ []
  pub not_its_own : rooms (job 0 3 7 ∷ job 1 2 2 ∷ job 0 2 2 ∷ []) ≡ 1 ∷ 1 ∷ 1 ∷ []
  -- one release and three deadlines
  pub one-release : rooms (job 0 3 1 ∷ job 0 2 2 ∷ job 0 1 1 ∷ []) ≡ 8 ∷ 5 ∷ 3 ∷ []
  pub two_classes : rooms (job 0 2 4 ∷ job 1 2 1 ∷ job 0 3 1 ∷ []) ≡ 3 ∷ 3 ∷ 6 ∷ []
  pub longer_window : rooms (job 0 1 1 ∷ job 0 3 1 ∷ []) ≡ 3 ∷ 10 ∷ []
  -- windows that only touch
  pub apart : rooms (job 0 1 1 ∷ job 1 2 4 ∷ []) ≡ 3 ∷ 0 ∷ []
