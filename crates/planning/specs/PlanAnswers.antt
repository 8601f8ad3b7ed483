-- The contract of planning: what one call answers and what it leaves in the buffers, for bytes and buffers of any length.
use Rattle.std.specs.Prelude.{ℕ, ◌+◌, ◌*◌, ◌≡◌, ◌↔◌, List, length, take, ℤ, Result, Ok, Err}
use Rattle.model.specs.declared.Parameters.{Parameters}
use Rattle.model.specs.Sites.{Site}
use Rattle.model.specs.Planning.{PlanOutcome, refusal, overfull, comes_out, plan_for, planning}
use Rattle.model.specs.Demands.{ValidTables, LongEnough, CanBeServed, EarliestWindow, BestPlan}
use Rattle.model.specs.Refusals.{number_of, refusal as refusal_at}
use Rattle.spare.specs.declared.unmet.NoAnswer.{NoAnswer}
use Rattle.spare.specs.declared.unmet.NoAnswer.TheVariants.{Overfull as OverfullWindow, Refused as RefusedBy}
use Rattle.planning.specs.declared.operation.WrittenPlan.{WrittenPlan}
use Rattle.planning.specs.MadePlans.{Buffers, Written}

abbrev pub PlanAnswer : Type 0
PlanAnswer = Result WrittenPlan NoAnswer

-- A plan was written, of so many intervals and steps, with its energy figure.
abbrev pub Plan : (intervals steps energy : ℕ) → PlanAnswer
Plan intervals steps energy = Ok (record { intervals = intervals; steps = steps; energy = energy })

-- 11, with the window and its spare.
abbrev pub Overfull : (start end : ℕ) → (spare : ℤ) → PlanAnswer
Overfull start end spare = Err (OverfullWindow start end spare)

-- Another refusal, by its number and place.
abbrev pub Refused : (number place : ℕ) → PlanAnswer
Refused number place = Err (RefusedBy (refusal_at number place))

-- Document 01's number and values for each case: a plan came out, 11 with the window and its spare, or another refusal
-- with its number and place.
abbrev pub outcome_of : PlanAnswer → PlanOutcome
outcome_of (Ok written) = comes_out
outcome_of (Err (OverfullWindow start end spare)) = overfull start end spare
outcome_of (Err (RefusedBy own)) = refusal (number_of own.fault) own.place

-- What planning a site that was read keeps: the outcome, the buffers where no plan comes out, and what is written where one does.
pub record SitePlanned (site : Site) (before after : Buffers) (answered : PlanAnswer) : Type 0 where
  pub outcome : outcome_of answered ≡ plan_for site (length before.plan) (length before.prices) (length before.shares)
  pub untouched : (outcome_of answered ≡ comes_out → ⊥) → after ≡ before
  pub written : (intervals steps energy : ℕ) → answered ≡ Plan intervals steps energy → Written site intervals steps energy before after

-- The whole promise of planning.
pub record PlanContract (level_bytes job_bytes mark_bytes : List ℕ) (parameters : Parameters) (before after : Buffers) (answered : PlanAnswer) : Type 0 where
  -- a plan or not, and which refusal or window: as the definition of planning says, refusals 1 to 14, 31, 32 and 34 in their order
  pub outcome : outcome_of answered ≡ planning level_bytes job_bytes mark_bytes parameters (length before.plan) (length before.prices) (length before.shares)
  -- without a plan everything lent is as it was
  pub untouched : (outcome_of answered ≡ comes_out → ⊥) → after ≡ before
  -- with a plan: what is written, and that the rest stays
  pub written : (site : Site) → ValidTables level_bytes job_bytes mark_bytes parameters site
      → (intervals steps energy : ℕ) → answered ≡ Plan intervals steps energy → Written site intervals steps energy before after
  -- the plan gives each job exactly its cycles in its open intervals, one job at a time; the figure is the defined one; no
  -- schedule over the given levels that serves has less than its exact energy; each accepted price list for it is at
  -- least the one written
  pub best : (site : Site) → ValidTables level_bytes job_bytes mark_bytes parameters site
      → (intervals steps energy : ℕ) → answered ≡ Plan intervals steps energy
      → BestPlan site energy (take (4 + 6 * steps) after.plan) (take (2 + 5 * intervals) after.prices)
  -- with 11: the window is the earliest whose own jobs need more than the top gives there, with its spare
  pub window : (site : Site) → ValidTables level_bytes job_bytes mark_bytes parameters site
      → (start end : ℕ) (spare : ℤ) → answered ≡ Overfull start end spare → EarliestWindow site start end spare
  -- and then no schedule serves
  pub never_served : (site : Site) → ValidTables level_bytes job_bytes mark_bytes parameters site
      → (start end : ℕ) (spare : ℤ) → answered ≡ Overfull start end spare → CanBeServed site → ⊥
  -- with long enough buffers a plan comes out exactly when some schedule serves
  pub exactly_when_served : (site : Site) → ValidTables level_bytes job_bytes mark_bytes parameters site
      → LongEnough site (length before.plan) (length before.prices) (length before.shares)
      → (outcome_of answered ≡ comes_out) ↔ CanBeServed site
