-- Short plans, over the tables in bytes and the calls themselves. Document 02, Change 10: "The kernel's plan memory is small. A planned
-- site with at least one job must use at most jobs + intervals − 1 steps, and no site pays energy for it. Planning's refusal 12 then wants
-- 4 + 6 × the smaller of that number and K, and 4 bytes for no jobs." Proved in proofs/ShortPlans.antt.
use Rattle.std.specs.Prelude.{ℕ, ◌+◌, ◌-◌, ◌*◌, ◌<◌, ◌≤◌, min, ◌≡◌, ◌↔◌, List, length}
use Rattle.std.proofs.Math.Option.{none}
use Rattle.model.specs.declared.Parameters.{Parameters}
use Rattle.model.specs.Outcome.{answer}
use Rattle.model.specs.Processors.{top_of}
use Rattle.model.specs.Intervals.{interval_count, open_pairs}
use Rattle.model.specs.Sites.{Site}
use Rattle.model.specs.Windows.{earliest_overfull}
use Rattle.model.specs.Plans.{load}
use Rattle.model.specs.Steps.{step_count, shares_of}
use Rattle.model.specs.Checking.{fits, check}
use Rattle.model.specs.Accepted.{exact_for, LeastPlan}
use Rattle.model.specs.Planning.{plan_length}
use Rattle.model.specs.Demands.{ValidTables}
use Rattle.planning.specs.PlanAnswers.{Plan, Refused}
use Rattle.demands.specs.ThreeDemands.{Call, plan_written}

-- The steps of a plan that comes out: those answered are those written.
pub record FewSteps (call : Call) (site : Site) (steps : ℕ) : Type 0 where
  pub written : step_count (plan_written call steps) ≡ steps
  pub size : length (plan_written call steps) ≡ 4 + 6 * steps
  -- "A planned site with at least one job must use at most jobs + intervals − 1 steps"
  pub with_a_job : 1 ≤ length site.jobs → steps + 1 ≤ length site.jobs + interval_count site.bounds
  -- and one without has none
  pub without_jobs : length site.jobs ≡ 0 → steps ≡ 0
  -- no plan has more steps than open pairs
  pub open-pairs : steps ≤ open_pairs site.bounds site.jobs

-- "and no site pays energy for it": the short plan is least among all schedules, and so among all plans, of however many steps.
pub record NoEnergyPaid (call : Call) (site : Site) (steps energy : ℕ) : Type 0 where
  pub least : LeastPlan site (plan_written call steps) energy
  pub no_plan_less : (other : List ℕ) (figure : ℕ)
      → fits call.level_bytes call.job_bytes call.mark_bytes call.parameters other ≡ answer figure
      → exact_for site (plan_written call steps) ≤ exact_for site other

-- Two plans load each interval alike, whatever their steps.
abbrev pub SameLoads : Site → (one two : List ℕ) → Type 0
SameLoads site one two =
    (i : ℕ) → i < interval_count site.bounds → load site.jobs (shares_of two) i ≡ load site.jobs (shares_of one) i

-- What is the same of them: filling the same loads anew moves no energy and no price.
pub record SameEnergyAndPrices (levels jobs marks : List ℕ) (parameters : Parameters) (site : Site) (one two : List ℕ) : Type 0 where
  pub exact-energy : exact_for site two ≡ exact_for site one
  pub figure : fits levels jobs marks parameters two ≡ fits levels jobs marks parameters one
  pub prices : (list : List ℕ) (energy : ℕ)
      → (check levels jobs marks parameters one list ≡ answer energy) ↔ (check levels jobs marks parameters two list ≡ answer energy)

-- "Planning's refusal 12 then wants 4 + 6 × the smaller of that number and K, and 4 bytes for no jobs."
pub record WantedLength (site : Site) : Type 0 where
  pub with_a_job : 1 ≤ length site.jobs
      → plan_length site ≡ 4 + 6 * min (length site.jobs + interval_count site.bounds - 1) (open_pairs site.bounds site.jobs)
  pub without_jobs : length site.jobs ≡ 0 → plan_length site ≡ 4

-- Nothing before 12 holds, and the plan buffer is under the length wanted, which is the place.
pub record ShortBuffer (call : Call) (place : ℕ) : Type 0 where
  pub site : Site
  pub tables : ValidTables call.level_bytes call.job_bytes call.mark_bytes call.parameters site
  pub not_overfull : earliest_overfull (top_of site.processor) site.jobs ≡ none
  pub place_is : place ≡ plan_length site
  pub short : length call.before.plan < place

pub record ShortPlans : Type 0 where
  pub few_steps : (call : Call) (site : Site) → ValidTables call.level_bytes call.job_bytes call.mark_bytes call.parameters site
      → (intervals steps energy : ℕ) → call.answered ≡ Plan intervals steps energy → FewSteps call site steps
  pub no_energy_paid : (call : Call) (site : Site) → ValidTables call.level_bytes call.job_bytes call.mark_bytes call.parameters site
      → (intervals steps energy : ℕ) → call.answered ≡ Plan intervals steps energy → NoEnergyPaid call site steps energy
  -- of any two plans that fit
  pub same_loads : (levels jobs marks : List ℕ) (parameters : Parameters) (site : Site) → ValidTables levels jobs marks parameters site
      → (one two : List ℕ) (figure other_figure : ℕ)
      → fits levels jobs marks parameters one ≡ answer figure → fits levels jobs marks parameters two ≡ answer other_figure
      → SameLoads site one two → SameEnergyAndPrices levels jobs marks parameters site one two
  pub wanted : (site : Site) → WantedLength site
  -- 12 comes exactly then
  pub refusal_12 : (call : Call) (place : ℕ) → (call.answered ≡ Refused 12 place) ↔ ShortBuffer call place
  -- a buffer of 4 + 6K bytes, as was wanted before, is always long enough
  pub as_before : (call : Call) (site : Site) → ValidTables call.level_bytes call.job_bytes call.mark_bytes call.parameters site
      → 4 + 6 * open_pairs site.bounds site.jobs ≤ length call.before.plan
      → (place : ℕ) → call.answered ≡ Refused 12 place → ⊥
