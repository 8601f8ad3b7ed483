-- Rounds that repeat, in the user's words. Document 02, Change 1: "For any number of repeats, the repeated plan is the least
-- for the repeated jobs, table limits aside." Demand 3: "It must hold exactly, because rounds that repeat come next, and one
-- plan will then run for weeks."
-- Proved in proofs/RoundsThatRepeat.antt.
use Rattle.std.specs.Prelude.{ℕ, ◌*◌, ◌≡◌, List, map}
use Rattle.model.specs.declared.Job.{Job}
use Rattle.model.specs.Outcome.{answer}
use Rattle.model.specs.SiteParameters.{altered_job, alter_jobs}
use Rattle.model.specs.Sites.{Site, ValidSite}
use Rattle.model.specs.Steps.{shares_of}
use Rattle.model.specs.PriceBytes.{prices_of}
use Rattle.model.specs.Accepted.{Accepted}
use Rattle.tasks.specs.declared.Task.{Task}
use Rattle.tasks.specs.Tasks.{read_tasks}
use Rattle.tasks.specs.Multiples.{LeastCommonMultiple}
use Rattle.tasks.specs.LaidOut.{lay_out}
use Rattle.tasks.specs.Rounds.{Round, rounds}
use Rattle.repeats.specs.Repeats.{repeat_jobs, RepeatsApart}
use Rattle.repeats.specs.RepeatedPlan.{RepeatedPlan}

-- The jobs that tasks release in so many ticks, by release, then task number, each with its ticks kept free and its margin (Change 9).
abbrev pub released_in : (free margin : ℕ) → List Task → (ticks : ℕ) → List Job
released_in free margin tasks ticks = map (altered_job free margin) (lay_out tasks ticks)

-- With 0 and 0 they are those that are laid out.
abbrev pub ReleasedAsLaidOut : Type 0
ReleasedAsLaidOut = (tasks : List Task) (ticks : ℕ) → released_in 0 0 tasks ticks ≡ lay_out tasks ticks

-- What holds of r repeats, one every H ticks, of a round that was laid out from a table of tasks, at a site whose plan is repeated with
-- it.
pub record RepeatedRound (task_bytes : List ℕ) (H free margin : ℕ) (site : Site) (plan prices : List ℕ) (r : ℕ) : Type 0 where
  -- the tasks of the table
  pub tasks : List Task
  pub read : read_tasks task_bytes ≡ answer tasks
  -- a repeat follows every least common multiple of their periods
  pub multiple : LeastCommonMultiple tasks H
  -- "the repeated jobs" are exactly the jobs that the tasks release in r times that many ticks, by release, then task number, each with
  -- its ticks kept free and its margin
  pub repeated_jobs : repeat_jobs H r site.jobs ≡ released_in free margin tasks (r * H)
  -- each repeat ends no later than the next one starts
  pub apart : RepeatsApart H site.jobs
  -- "the repeated plan is the least": it gives each of these jobs exactly its cycles between release and deadline; carried
  -- out it is a schedule that meets all deadlines; and no schedule over the same levels that meets all deadlines, whatever
  -- whole number of slots it cuts a tick into, has less than its exact energy. What this energy is stands there too.
  -- "One plan will then run for weeks": the kernel loads this one plan, runs it again whenever the multiple has passed, and
  -- idles in between. Slot by slot that is the repeated plan carried out: `run_again` says it.
  pub repeated_plan : RepeatedPlan H r site (shares_of plan) (prices_of prices)

-- Tasks laid out, planned, repeated: a round answered for the bytes of a task table; a site with the round's jobs as free ticks and a
-- margin alter them, whatever its levels, what idling draws, and its bounds; a plan and prices that the check accepts there. Then all of
-- the above holds for every number r of repeats.
abbrev pub RoundsThatRepeat : Type 0
RoundsThatRepeat =
    (task_bytes : List ℕ) (room : ℕ) (round : Round) → rounds task_bytes room ≡ answer round
    → (free margin : ℕ) (site : Site) → ValidSite site → alter_jobs free margin round.jobs ≡ answer site.jobs
    → (plan prices : List ℕ) → Accepted site plan prices
    → (r : ℕ) → RepeatedRound task_bytes round.multiple free margin site plan prices r
