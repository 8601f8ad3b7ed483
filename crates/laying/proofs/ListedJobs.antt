-- Laws of jobs listed in arrays: none, one more, and all of a round.
-- Assumes nothing.
use mathlib.Core.Path.{◌≡◌, refl, ◌∙◌}
use mathlib.Core.Logic.{◌⊎◌, inl, inr}
use mathlib.Core.List.{List, [], ◌∷◌, ◌++◌, append_assoc, append-nil}
use Prim.Native.Nat.{ℕ, ◌+◌, ◌-◌, ◌<◌, ◌≤◌}
use native.Mathlib.Nat.{eq-or-lt_of_le}
use native.Mathlib.Omega.{arith}
use lib.ListN.{length, get_or, set, length-set, length-append, get_or-append}
use lib.Seq.{get_or-set_same, get_or-set_other}
use Rattle.model.specs.declared.Job.{Job}
use Rattle.model.specs.Limits.{max_jobs}
use Rattle.model.specs.Entries.{joined}
use Rattle.model.specs.Jobs.{no_job, job_of}
use Rattle.model.proofs.Joined.{get_d_past, joined_longer, joined_next}
use Rattle.model.proofs.Entries.{list_of_cong, list_of_get_d}
use Rattle.job_tables.specs.Tables.{jobs_in}
use Rattle.tasks.specs.declared.Task.{Task}
use Rattle.tasks.specs.Tasks.{task_of}
use Rattle.tasks.specs.LaidOut.{released_by, jobs_at, lay_out}
use Rattle.laying.specs.ListedJobs.{JobArrays, ListedJobs, PutAt, AddedJob, AllListed}

-- a value that is stored
pub put_stored : (number value : ℕ) (before after : List ℕ) → length before ≡ max_jobs → number < max_jobs → after ≡ set before number value → PutAt number value before after
put_stored number value before after long inside e =
    record {
      there = λ room. rw (e, get_or-set_same before number value 0 (omega arith));
      others = λ j other. rw (e, get_or-set_other before number j value 0 other);
    }

pub stored_room : (number one two three : ℕ) (releases deadlines cycles : List ℕ) → JobArrays releases deadlines cycles
    → JobArrays (set releases number one) (set deadlines number two) (set cycles number three)
stored_room number one two three releases deadlines cycles h =
    record {
      releases_room = length-set releases number one ∙ h.releases_room;
      deadlines_room = length-set deadlines number two ∙ h.deadlines_room;
      cycles_room = length-set cycles number three ∙ h.cycles_room;
    }

-- one column with one job more
held_next : (field : Job → ℕ) (jobs : List Job) (job : Job) (before after : List ℕ) → PutAt (length jobs) (field job) before after
    → ((j : ℕ) → j < length jobs → j < max_jobs → get_or before j 0 ≡ field (job_of jobs j))
    → (j : ℕ) → j < length (jobs ++ (job ∷ [])) → j < max_jobs → get_or after j 0 ≡ field (job_of (jobs ++ (job ∷ [])) j)
held_next field jobs job before after put held j below room =
    go (eq-or-lt_of_le (let h : j ≤ length jobs = omega (arith, length-append jobs (job ∷ [])) in h))
  where
    go : (j ≡ length jobs) ⊎ (j < length jobs) → get_or after j 0 ≡ field (job_of (jobs ++ (job ∷ [])) j)
    go (inl last) =
        let none : length jobs - length jobs ≡ 0 = omega arith in
        rw (last, get_d_past no_job jobs (job ∷ []) (length jobs) (omega arith), none) (put.there (omega arith))
    go (inr inside) = rw (get_or-append jobs (job ∷ []) no_job j inside, put.others j (λ e. omega arith)) (held j inside room)

module _ (jobs : List Job) (count : ℕ) (releases deadlines cycles : List ℕ) (listed : ListedJobs jobs count releases deadlines cycles) where
  pub listed_next : (job : Job) (releases' deadlines' cycles' : List ℕ) → AddedJob job count releases deadlines cycles releases' deadlines' cycles'
      → ListedJobs (jobs ++ (job ∷ [])) (count + 1) releases' deadlines' cycles'
  listed_next job releases' deadlines' cycles' added =
      let same = listed.counted in
      record {
        counted = rw length-append (omega (arith, listed.counted));
        releases_held = held_next (λ job. job.release) jobs job releases releases' (rw same at added.release) listed.releases_held;
        deadlines_held = held_next (λ job. job.deadline) jobs job deadlines deadlines' (rw same at added.deadline) listed.deadlines_held;
        cycles_held = held_next (λ job. job.cycles) jobs job cycles cycles' (rw same at added.cycle_count) listed.cycles_held;
      }

  -- all jobs, where there is room for them
  pub all_listed : count ≤ max_jobs → AllListed jobs count releases deadlines cycles
  unfolding jobs_in
  all_listed few =
      record {
        few = few;
        counted = listed.counted;
        held = rw listed.counted
            (list_of_cong (length jobs) _ (job_of jobs) (λ j below.
            rw (listed.releases_held j below (omega (arith, listed.counted)), listed.deadlines_held j below (omega (arith, listed.counted)), listed.cycles_held j below (omega (arith, listed.counted))))
            ∙ list_of_get_d jobs no_job);
      }

pub listed_none : (releases deadlines cycles : List ℕ) → ListedJobs [] 0 releases deadlines cycles
listed_none releases deadlines cycles =
    record {
      counted = refl;
      releases_held = λ j below room. absurd (omega arith);
      deadlines_held = λ j below room. absurd (omega arith);
      cycles_held = λ j below room. absurd (omega arith);
    }

-- too many before the end are too many
pub round_too_many : (tasks : List Task) (tick ticks count : ℕ) (releases deadlines cycles : List ℕ) → tick ≤ ticks → max_jobs < count
    → ListedJobs (lay_out tasks tick) count releases deadlines cycles → max_jobs < length (lay_out tasks ticks)
unfolding lay_out
round_too_many tasks tick ticks count releases deadlines cycles within full listed =
    omega (arith, listed.counted, joined_longer (jobs_at tasks) tick ticks within)

-- before the first of these lists
pub listed_start : (jobs : List Job) (count : ℕ) (f : ℕ → List Job) (releases deadlines cycles : List ℕ)
    → ListedJobs jobs count releases deadlines cycles → ListedJobs (jobs ++ joined 0 f) count releases deadlines cycles
unfolding joined
listed_start jobs count f releases deadlines cycles listed = rw (append-nil jobs) listed

-- one list more of those that are released at a tick: of one job, or of none
module _ (jobs : List Job) (count i : ℕ) (f : ℕ → List Job) (releases deadlines cycles : List ℕ)
    (listed : ListedJobs (jobs ++ joined i f) count releases deadlines cycles) where
  pub listed_one : (job : Job) → f i ≡ job ∷ [] → (releases' deadlines' cycles' : List ℕ)
      → AddedJob job count releases deadlines cycles releases' deadlines' cycles'
      → ListedJobs (jobs ++ joined (i + 1) f) (count + 1) releases' deadlines' cycles'
  listed_one job one releases' deadlines' cycles' added =
      rw (joined_next i f, one, ← append_assoc jobs (joined i f) (job ∷ []))
      (listed_next (jobs ++ joined i f) count releases deadlines cycles listed job releases' deadlines' cycles' added)

  pub listed_nothing : f i ≡ [] → ListedJobs (jobs ++ joined (i + 1) f) count releases deadlines cycles
  listed_nothing none = rw (joined_next i f, none, append-nil (joined i f)) listed

-- after the last of them: all that is released at the tick
pub listed_tick : (jobs : List Job) (tasks : List Task) (tick count : ℕ) (releases deadlines cycles : List ℕ)
    → ListedJobs (jobs ++ joined (length tasks) (λ k. released_by (task_of tasks k) tick)) count releases deadlines cycles
    → ListedJobs (jobs ++ jobs_at tasks tick) count releases deadlines cycles
unfolding jobs_at
listed_tick jobs tasks tick count releases deadlines cycles listed = listed
