-- The user's three demands, each as one statement in the user's words. A reader who reads nothing else needs this file and
-- the definitions that it names; docs/ARCHITECTURE.md gives an order to read those in. Proved in proofs/ThreeDemands.antt.
--
-- The operations are functions without `requires`. What comes back, for bytes of any length and content and any numbers:
--
--     read_levels bytes                  level_table (read_levels bytes)
--     read_jobs bytes                    job_table (read_jobs bytes)
--     read_marks bytes                   mark_table (read_marks bytes)
--     setting levels highest length      setting_answer (setting levels highest length load)
--       load
--     spare levels jobs parameters       spare_answer (spare levels jobs parameters start end)
--       start end
--     fits levels jobs marks             fits_answer (fits levels jobs marks parameters plan)
--       parameters plan
--     check levels jobs marks            check_answer (check levels jobs marks parameters plan prices)
--       parameters plan prices
--     start, next and step_at            step_answer (walk plan) at the number of the step
--     plan levels jobs marks             an answer that `PlanContract` holds of
--       parameters and the buffers
--     rounds tasks and the buffer        rounds_answer (rounds tasks room), with the buffer that `RoundsContract` names
--     order levels jobs marks            order_answer (order levels jobs marks parameters plan prices room), with the buffer that
--       parameters plan prices and the     `OrderContract` names
--       buffer
--     touching jobs marks free margin    touching_answer (touching jobs marks free margin plan start end lists), with the lists that
--       plan start end and the lists       `TouchingContract` names
--     nearest levels jobs parameters     nearest_job_answer (nearest levels jobs parameters room), with the list that `NearestContract` names
--       and the list
--
-- Each is `Ok` of the answer where the outcome on the right is an answer, and otherwise `Err` of the refusal: the place, and the fault
-- that has the outcome's number (`number_of`). For an overfull window `plan` and `nearest` return `Err` of the window with its spare. So
-- what is stated here of an outcome on the right holds of what the caller gets. The site of which demands 2 and 3 speak is the one
-- that the parameters alter (`ValidTables`), and so are the schedules over its levels and for its jobs; that all running levels, 0 and 0
-- leave it as it is given is said in SiteParameters.
use Rattle.std.specs.Prelude.{ℕ, ◌+◌, ◌*◌, ◌≤◌, ◌≡◌, ◌↔◌, ◌⊎◌, List, length, take, ℤ, Err}
use Rattle.model.specs.declared.Level.{Level}
use Rattle.model.specs.declared.Job.{Job}
use Rattle.model.specs.declared.Parameters.{Parameters}
use Rattle.model.specs.declared.refusal.Refusal.{Refusal}
use Rattle.model.specs.Outcome.{answer, From, RefusesBy}
use Rattle.model.specs.LevelTables.{read_levels, LevelNumbers}
use Rattle.model.specs.Jobs.{read_jobs}
use Rattle.model.specs.SiteParameters.{AlteredLevels, AlteredJobs}
use Rattle.model.specs.Marks.{read_marks, bounds_with}
use Rattle.model.specs.Processors.{working_of, top_of, processor_of}
use Rattle.model.specs.Setting.{setting}
use Rattle.model.specs.Sites.{Site, TableNumbers, SiteNumbers}
use Rattle.model.specs.Windows.{spare}
use Rattle.model.specs.Plans.{Gives}
use Rattle.model.specs.Prices.{FittingPrices}
use Rattle.model.specs.Schedules.{Serves}
use Rattle.model.specs.LeastEnergy.{CarriedOut}
use Rattle.model.specs.Steps.{walk, shares_of}
use Rattle.model.specs.PriceBytes.{prices_of}
use Rattle.model.specs.Checking.{fits, check, figure_of}
use Rattle.model.specs.Accepted.{IsPlan, IsPriceList, ScheduleFor, powers_for, exact_for, gaps_of}
use Rattle.model.specs.Planning.{comes_out, refusal}
use Rattle.model.specs.Demands.{ValidTables, LongEnough, CanBeServed, NeedsMore, EarliestWindow, SmallestPrices}
use Rattle.planning.specs.MadePlans.{Buffers}
use Rattle.planning.specs.PlanAnswers.{PlanAnswer, Plan, Overfull, outcome_of, PlanContract}
use Rattle.tasks.specs.Rounds.{rounds}
use Rattle.rounds.specs.RoundAnswers.{RoundsAnswer, RoundsContract}
use Rattle.ordering.specs.Ordering.{order}
use Rattle.ordering.specs.OrderAnswers.{OrderAnswer, OrderContract}
use Rattle.touching.specs.Touching.{Lists, touching}
use Rattle.touching.specs.TouchingAnswers.{TouchingAnswer, TouchingContract}
use Rattle.job_rooms.specs.SetOutcomes.{refusal as no_rooms}
use Rattle.nearest.specs.Nearest.{nearest}
use Rattle.nearest.specs.NearestAnswers.{NearestAnswer, Listed, NearestContract}

-- One call of planning: what it was lent, what it left there, and its answer, with the contract that holds of every call.
pub record Call : Type 0 where
  pub level_bytes : List ℕ
  pub job_bytes : List ℕ
  pub mark_bytes : List ℕ
  pub parameters : Parameters
  pub before : Buffers
  pub after : Buffers
  pub answered : PlanAnswer
  pub contract : PlanContract level_bytes job_bytes mark_bytes parameters before after answered

-- "a plan comes out"
abbrev pub PlanComesOut : Call → Type 0
PlanComesOut call = outcome_of call.answered ≡ comes_out

-- The bytes that a call wrote where it answers N intervals and S steps.
abbrev pub plan_written : Call → (steps : ℕ) → List ℕ
plan_written call steps = take (4 + 6 * steps) call.after.plan

abbrev pub prices_written : Call → (intervals : ℕ) → List ℕ
prices_written call intervals = take (2 + 5 * intervals) call.after.prices

-- Demand 1. "Whoever calls an operation, with bytes of any length and content, gets a result or a numbered refusal from
-- document 01; nothing is required of the caller first, and a refused call changes nothing lent to it." Planning, laying out a
-- round, ordering, listing what touches a span and listing the jobs with their rooms alone are lent anything that they may change. Document 02's numbers join those of
-- document 01: `LevelNumbers` are 1 to 5, 31 and 32, `TableNumbers` 1 to 10, 31, 32, 35 and 36, and `SiteNumbers` these and 34.
pub record DemandOne : Type 0 where
  pub reading_levels : (bytes : List ℕ) → RefusesBy LevelNumbers (read_levels bytes)
  pub reading_jobs : (bytes : List ℕ) → RefusesBy (From 6 10) (read_jobs bytes)
  pub reading_marks : (bytes : List ℕ) → RefusesBy (From 34 34) (read_marks bytes)
  pub setting_one : (levels : List ℕ) (highest length load : ℕ)
      → RefusesBy (λ n. (LevelNumbers n ⊎ From 35 35 n) ⊎ From 25 26 n) (setting levels highest length load)
  pub spare_of_window : (levels jobs : List ℕ) (parameters : Parameters) (start end : ℕ)
      → RefusesBy (λ n. TableNumbers n ⊎ From 27 27 n) (spare levels jobs parameters start end)
  pub fitting : (levels jobs marks : List ℕ) (parameters : Parameters) (plan : List ℕ)
      → RefusesBy (λ n. SiteNumbers n ⊎ From 15 20 n) (fits levels jobs marks parameters plan)
  pub checking : (levels jobs marks : List ℕ) (parameters : Parameters) (plan prices : List ℕ)
      → RefusesBy (λ n. SiteNumbers n ⊎ From 15 24 n) (check levels jobs marks parameters plan prices)
  pub walking : (plan : List ℕ) → RefusesBy (From 15 15) (walk plan)
  -- 11 is the case Overfull, with its window and spare
  pub planning : (call : Call) (number place : ℕ) → outcome_of call.answered ≡ refusal number place → SiteNumbers number ⊎ From 12 14 number
  pub changes_nothing : (call : Call) → (PlanComesOut call → ⊥) → call.after ≡ call.before
  pub laying_out : (tasks : List ℕ) (room : ℕ) → RefusesBy (λ n. From 12 12 n ⊎ From 28 30 n) (rounds tasks room)
  pub lays_out_nothing : (tasks before after : List ℕ) (answered : RoundsAnswer) → RoundsContract tasks before after answered
      → (own : Refusal) → answered ≡ Err own → after ≡ before
  pub ordering : (levels jobs marks : List ℕ) (parameters : Parameters) (plan prices : List ℕ) (room : ℕ)
      → RefusesBy (λ n. (SiteNumbers n ⊎ From 15 24 n) ⊎ From 12 12 n) (order levels jobs marks parameters plan prices room)
  pub orders_nothing : (levels jobs marks : List ℕ) (parameters : Parameters) (plan prices before after : List ℕ) (answered : OrderAnswer)
      → OrderContract levels jobs marks parameters plan prices before after answered
      → (own : Refusal) → answered ≡ Err own → after ≡ before
  pub touching : (jobs marks : List ℕ) (free margin : ℕ) (plan : List ℕ) (start end : ℕ) (before : Lists)
      → RefusesBy (λ n. (From 33 33 n ⊎ (From 6 10 n ⊎ From 34 36 n)) ⊎ (From 15 18 n ⊎ From 14 14 n)) (touching jobs marks free margin plan start end before)
  pub touches_nothing : (jobs marks : List ℕ) (free margin : ℕ) (plan : List ℕ) (start end : ℕ) (before after : Lists) (answered : TouchingAnswer)
      → TouchingContract jobs marks free margin plan start end before after answered
      → (own : Refusal) → answered ≡ Err own → after ≡ before
  -- 11 is the case Overfull, with its window and spare, here too
  pub nearest : (levels jobs : List ℕ) (parameters : Parameters) (room number place : ℕ)
      → nearest levels jobs parameters room ≡ no_rooms number place → TableNumbers number ⊎ From 14 14 number
  pub lists_no_rooms : (levels jobs : List ℕ) (parameters : Parameters) (before after : List ℕ) (answered : NearestAnswer)
      → NearestContract levels jobs parameters before after answered → ((size : ℕ) → answered ≡ Listed size → ⊥) → after ≡ before

-- Demand 2. "A plan gives each job exactly its cycles between release and deadline, one job at a time, by the workload and
-- processor model of George's 2005 thesis, with the energy figure that document 01 defines."
pub record SuchAPlan (site : Site) (plan : List ℕ) (figure : ℕ) : Type 0 where
  pub is-plan : IsPlan site.jobs site.bounds plan
  -- each job has exactly its cycles, in intervals between its release and its deadline, and no interval is overloaded
  pub gives : Gives (top_of site.processor) site.jobs site.bounds (shares_of plan)
  -- carried out it is a schedule over the levels: a slot has one level and one job, and every deadline is met
  pub carried_out : CarriedOut site.processor.idle_power site.processor.levels site.jobs site.bounds (shares_of plan)
  pub energy-figure : figure ≡ figure_of site plan

-- "the prices fit document 01's rules"
pub record PricesFit (site : Site) (plan prices : List ℕ) : Type 0 where
  pub is_price_list : IsPriceList site.bounds prices
  pub fitting : FittingPrices (working_of site.processor) site.jobs site.bounds (shares_of plan) (prices_of prices)

-- What the check is to accept: tables that are read as a site, such a plan, and prices that fit.
pub record Acceptable (level_bytes job_bytes mark_bytes : List ℕ) (parameters : Parameters) (plan prices : List ℕ) (figure : ℕ) : Type 0 where
  pub site : Site
  pub tables : ValidTables level_bytes job_bytes mark_bytes parameters site
  pub such_a_plan : SuchAPlan site plan figure
  pub prices_fit : PricesFit site plan prices

pub record DemandTwo : Type 0 where
  -- "The planner writes only such plans."
  pub planner : (call : Call) (site : Site) → ValidTables call.level_bytes call.job_bytes call.mark_bytes call.parameters site
      → (intervals steps energy : ℕ) → call.answered ≡ Plan intervals steps energy → SuchAPlan site (plan_written call steps) energy
  -- "The check accepts a plan and its price list exactly when the plan is such a plan and the prices fit document 01's rules."
  pub accepts : (level_bytes job_bytes mark_bytes : List ℕ) (parameters : Parameters) (plan prices : List ℕ) (figure : ℕ)
      → (check level_bytes job_bytes mark_bytes parameters plan prices ≡ answer figure) ↔ Acceptable level_bytes job_bytes mark_bytes parameters plan prices figure

-- Demand 3, where a plan was written. All energies are multiplied out by all gaps, and by q where a schedule is one side.
pub record PlanComesWith (call : Call) (site : Site) (intervals steps energy : ℕ) : Type 0 where
  -- "Every schedule over those levels that meets all deadlines, whatever whole number of slots it cuts a tick into, has at
  -- least the exact energy of the plan written."
  pub least : (schedule : ScheduleFor site) → Serves schedule
      → schedule.q * exact_for site (plan_written call steps) ≤ gaps_of site * powers_for site schedule
  -- "all cycles are placed and each interval is priced, by 2 and by planning in document 01"
  pub placed : SuchAPlan site (plan_written call steps) energy
  pub priced : PricesFit site (plan_written call steps) (prices_written call intervals)
  pub smallest : SmallestPrices site (plan_written call steps) (prices_written call intervals)
  -- "and the check, lent the same tables and exactly the bytes written, accepts them and answers the same energy figure"; "in demand
  -- 3 the check is lent the same marks too", and "is given the same three"
  pub checked : check call.level_bytes call.job_bytes call.mark_bytes call.parameters (plan_written call steps) (prices_written call intervals) ≡ answer energy

-- "Where no plan comes out, a window does, whose own jobs need more cycles than the top frequency gives there, and then no
-- schedule meets all deadlines."
pub record NoPlan (call : Call) (site : Site) : Type 0 where
  pub start : ℕ
  pub end : ℕ
  pub spare : ℤ
  pub window : call.answered ≡ Overfull start end spare
  pub needs_more : NeedsMore site start end
  pub earliest : EarliestWindow site start end spare
  pub no_schedule : CanBeServed site → ⊥

-- Demand 3. "Whatever valid tables are planned, with long enough buffers, a plan comes out exactly when some schedule over
-- the same levels meets all deadlines."
pub record DemandThree : Type 0 where
  pub exactly_when : (call : Call) (site : Site) → ValidTables call.level_bytes call.job_bytes call.mark_bytes call.parameters site
      → LongEnough site (length call.before.plan) (length call.before.prices) (length call.before.shares)
      → PlanComesOut call ↔ CanBeServed site
  -- with every plan that comes out
  pub written : (call : Call) (site : Site) → ValidTables call.level_bytes call.job_bytes call.mark_bytes call.parameters site
      → (intervals steps energy : ℕ) → call.answered ≡ Plan intervals steps energy → PlanComesWith call site intervals steps energy
  -- where none comes out
  pub window_instead : (call : Call) (site : Site) → ValidTables call.level_bytes call.job_bytes call.mark_bytes call.parameters site
      → LongEnough site (length call.before.plan) (length call.before.prices) (length call.before.shares)
      → (PlanComesOut call → ⊥) → NoPlan call site

-- The demands' hypotheses shut nothing out. Every call is a `Call`, whatever bytes, buffers and answer planning's contract
-- holds of; and tables are valid where all three are read and none of 35 and 36 holds: `AlteredLevels` and `AlteredJobs` say of the
-- parameters what they do to levels and jobs, and that these are as they may be. What the theory asks of sites, bounds, schedules and buffers is built in
-- Hypotheses of the crate model.
pub record NothingShutOut : Type 0 where
  pub every_call : (level_bytes job_bytes mark_bytes : List ℕ) (parameters : Parameters) (before after : Buffers) (answered : PlanAnswer)
      → PlanContract level_bytes job_bytes mark_bytes parameters before after answered
      → (call : Call) × (call.level_bytes ≡ level_bytes) × (call.job_bytes ≡ job_bytes) × (call.mark_bytes ≡ mark_bytes)
      × (call.parameters ≡ parameters) × (call.before ≡ before) × (call.after ≡ after) × (call.answered ≡ answered)
  pub every_table : (level_bytes job_bytes mark_bytes : List ℕ) (parameters : Parameters)
      → (entries levels : List Level) (jobs altered : List Job) (marks : List ℕ)
      → read_levels level_bytes ≡ answer entries → read_jobs job_bytes ≡ answer jobs → read_marks mark_bytes ≡ answer marks
      → AlteredLevels parameters.highest entries levels → AlteredJobs parameters.free parameters.margin jobs altered
      → (site : Site) × ValidTables level_bytes job_bytes mark_bytes parameters site
      × (site.processor ≡ processor_of levels) × (site.jobs ≡ altered) × (site.bounds ≡ bounds_with marks altered)
