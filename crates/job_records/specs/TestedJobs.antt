-- What the check finds of the jobs in one pass over the list of records.
use Rattle.std.specs.Prelude.{ℕ, ◌+◌, ◌-◌, ◌<◌, ◌≤◌, ◌≡◌, Bool, not, cond, ◌&&◌, List, length, get_or, ltb, leb, eqb}
use Rattle.model.specs.declared.Job.{Job}
use Rattle.model.specs.Search.{first_below}
use Rattle.model.specs.Jobs.{job_of}
use Rattle.job_records.specs.SetsHave.{SetsHave, with_job_in}

-- A job with this release and deadline is open in interval i between the times.
abbrev pub open_between : (release deadline : ℕ) → (times : List ℕ) → (i : ℕ) → Bool
open_between release deadline times i = leb release (get_or times i 0) && leb (get_or times (i + 1) 0) deadline

-- The same where the interval is one of those between the bounds.
abbrev pub opens_in : (release deadline : ℕ) → (times : List ℕ) → (bounds i : ℕ) → Bool
opens_in release deadline times bounds i = ltb i (bounds - 1) && open_between release deadline times i

module _ (jobs : List Job) where
  -- Job j is one of the first `count`, and open in interval i.
  abbrev pub open_below : (count : ℕ) → (times : List ℕ) → (bounds i j : ℕ) → Bool
  open_below count times bounds i j = ltb j count && opens_in (job_of jobs j).release (job_of jobs j).deadline times bounds i

  -- A job's steps add to its cycles, where `sums` has what they add to.
  abbrev pub adds_up : (sums : List ℕ) → (job : ℕ) → Bool
  adds_up sums j = eqb (get_or sums j 0) (job_of jobs j).cycles

  -- How many jobs there are, of the first `count`, before the first whose steps do not add to its cycles.
  abbrev pub summed_below : (count : ℕ) → (sums : List ℕ) → ℕ
  summed_below count sums = first_below count (λ j. not (adds_up sums j))

  -- What the pass has found after the first `count` jobs.
  pub record TestedBelow (count : ℕ) (times : List ℕ) (bounds : ℕ) (sums sets : List ℕ) (summed : ℕ) : Type 0 where
    pub opened : SetsHave sets (open_below count times bounds)
    pub added : summed ≡ summed_below count sums

  -- An array has the cycles of the jobs.
  pub record HoldsCycles (cycles : List ℕ) : Type 0 where
    pub at : (j : ℕ) → j < length jobs → get_or cycles j 0 ≡ (job_of jobs j).cycles

-- The number of intervals that end by a deadline: those below the number do, the others do not.
pub record EndsBy (bounds : ℕ) (times : List ℕ) (deadline number : ℕ) : Type 0 where
  pub within : number ≤ bounds - 1
  pub before : (i : ℕ) → i < number → get_or times (i + 1) 0 ≤ deadline
  pub after : (i : ℕ) → number ≤ i → i < bounds - 1 → deadline < get_or times (i + 1) 0

-- One record more: job j is added to the sets of its intervals. Where all jobs before it add up and it does too, one job
-- more adds up.
pub record JobTested (summed j : ℕ) (job : Job) (times : List ℕ) (bounds : ℕ) (sums before after : List ℕ) (next : ℕ) : Type 0 where
  pub opened : SetsHave after (with_job_in before j (opens_in job.release job.deadline times bounds))
  pub added : next ≡ cond (eqb summed j && eqb (get_or sums j 0) job.cycles) (j + 1) summed
