-- The first half of the check over plain arrays.
use Rattle.std.specs.Prelude.{ℕ, ◌-◌, ◌*◌, ◌≡◌, Bool, not, cond, ◌||◌, ◌&&◌, List, length, get_or, ltb, leb, eqb, Result, IsOk}
use Rattle.model.specs.declared.refusal.Refusal.{Refusal}
use Rattle.model.specs.declared.Job.{Job}
use Rattle.model.specs.Outcome.{Outcome, refuse_when, by_entry}
use Rattle.model.specs.Entries.{list_of}
use Rattle.model.specs.Search.{some_below}
use Rattle.model.specs.Processors.{Processor, top_of}
use Rattle.model.specs.Intervals.{length_of}
use Rattle.model.specs.Sites.{Site}
use Rattle.model.specs.Steps.{Step, plan_intervals, step_count, cell_at, step_at, wrong_plan_length}
use Rattle.model.specs.Checking.{fitting}
use Rattle.fitting.specs.Verdicts.{verdict_of, passed}
use Rattle.job_sets.specs.JobSets.{is_member}
use Rattle.job_sets.specs.IntervalSets.{set_in}
use Rattle.job_records.specs.SetsHave.{SetsHave}
use Rattle.fitting.specs.SeenCells.{CellsSeen}
use Rattle.job_records.specs.TestedJobs.{open_below}
use Rattle.fitting.specs.Sums.{plan_loads}

-- The bounds that stand in an array, the first `count` of them.
unfoldable pub bounds_in : (count : ℕ) → (times : List ℕ) → List ℕ
bounds_in count times = list_of count (λ i. get_or times i 0)

-- The site of a processor and jobs whose bounds stand in an array.
abbrev pub site_in : Processor → List Job → (times : List ℕ) → (bounds : ℕ) → Site
site_in processor jobs times bounds = record { processor = processor; jobs = jobs; bounds = bounds_in bounds times }

-- The pair of a step exists and is open, over the open sets of the intervals.
abbrev pub open_pair_in : (sets : List ℕ) → (count bounds : ℕ) → Step → Bool
open_pair_in sets count bounds step =
    ltb step.interval (bounds - 1) && ltb step.job count && is_member (set_in sets step.interval) step.job

-- Refusal 17 at a step whose cell is present earlier or not, and 18; 0 for none.
abbrev pub fault_where : (sets cycles : List ℕ) → (count bounds : ℕ) → (earlier : Bool) → Step → ℕ
fault_where sets cycles count bounds earlier step =
    cond (not (open_pair_in sets count bounds step) || earlier) 17
    (cond (not (leb 1 step.cycles && leb step.cycles (get_or cycles step.job 0))) 18 0)

-- The same where the pairs of the steps before it are marked.
unfoldable pub fault_of_step : (sets cycles : List ℕ) → (count bounds : ℕ) → (seen : List ℕ) → Step → ℕ
fault_of_step sets cycles count bounds seen step =
    fault_where sets cycles count bounds (is_member (set_in seen step.interval) step.job) step

-- The same over a plan's cells.
unfoldable pub step_fault_in : (sets cycles : List ℕ) → (count bounds : ℕ) → (plan : List ℕ) → (step : ℕ) → ℕ
step_fault_in sets cycles count bounds plan s =
    fault_where sets cycles count bounds (some_below s (λ r. eqb (cell_at plan r) (cell_at plan s))) (step_at plan s)

-- The steps of a plan, 15 to 18, over the open sets and the cycles of the jobs in arrays.
unfoldable pub stepping_in : {A : Type 0} → (sets cycles : List ℕ) → (count bounds : ℕ) → (plan : List ℕ) → Outcome A → Outcome A
stepping_in sets cycles count bounds plan next =
    refuse_when (wrong_plan_length plan) 15
    (refuse_when (not (eqb (plan_intervals plan) (bounds - 1))) 16
    (by_entry (step_count plan) (step_fault_in sets cycles count bounds plan)
    next))

-- Refusal 20 at an interval, over loads in an array; 0 for none.
abbrev pub load_fault_in : (top : ℕ) → (bounds loads : List ℕ) → (interval : ℕ) → ℕ
load_fault_in top bounds loads i = cond (leb (get_or loads i 0) (length_of bounds i * top)) 0 20

-- What the first half answers of jobs and a plan, and what it fills: the open sets of the intervals, their loads and, where it
-- passes, the cells of the steps.
pub record Fitted (top : ℕ) (jobs : List Job) (times : List ℕ) (bounds : ℕ) (plan : List ℕ) (verdict : Result (Unit {0}) Refusal) (sets loads cells : List ℕ) : Type 0 where
  pub judged : (processor : Processor) → top_of processor ≡ top → verdict ≡ verdict_of (fitting (site_in processor jobs times bounds) plan passed)
  pub opened : SetsHave sets (open_below jobs (length jobs) times bounds)
  pub added : loads ≡ plan_loads plan
  pub seen : IsOk verdict → CellsSeen plan cells
