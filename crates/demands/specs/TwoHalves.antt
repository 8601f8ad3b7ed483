-- The check in two halves, over the tables in bytes and the calls themselves. Document 02, Change 8: "The bench needs to know if a
-- hand-made plan fits, without prices. Split the check: one half gives levels, jobs, marks and 15 to 20, and answers the energy figure;
-- the other runs it, goes on to 21 to 24 and answers as the check did. The kernel can call either. A fitting plan is promised to meet its
-- deadlines, and only the second half promises least energy." Proved in proofs/TwoHalves.antt.
use Rattle.std.specs.Prelude.{ℕ, ◌+◌, ◌*◌, ◌<◌, ◌≤◌, ◌≡◌, ◌↔◌, ◌⊎◌, List, [], ◌∷◌}
use Rattle.model.specs.declared.Parameters.{Parameters}
use Rattle.model.specs.Outcome.{refused, answer, and_then, From, RefusesBy}
use Rattle.model.specs.Bands.{band_count}
use Rattle.model.specs.LevelTables.{encode_levels}
use Rattle.model.specs.Jobs.{encode_jobs}
use Rattle.model.specs.Marks.{encode_marks}
use Rattle.model.specs.Processors.{working_of, top_of}
use Rattle.model.specs.Sites.{Site, read_site, SiteNumbers}
use Rattle.model.specs.Plans.{Gives}
use Rattle.model.specs.Schedules.{Serves}
use Rattle.model.specs.LeastEnergy.{CarriedOut}
use Rattle.model.specs.Steps.{shares_of}
use Rattle.model.specs.Checking.{pricing, fits, check}
use Rattle.model.specs.Accepted.{ScheduleFor, powers_for, exact_for, gaps_of, LeastPlan}
use Rattle.model.specs.Demands.{ValidTables}
use Rattle.model.specs.SiteLines.{job, T, full}
use Rattle.model.specs.ChangeLines.{early_plan}
use Rattle.planning.specs.PlanAnswers.{Plan}
use Rattle.demands.specs.ThreeDemands.{Call, plan_written, SuchAPlan}

-- What is promised of a fitting plan, whatever made it.
pub record FittingPlan (level_bytes job_bytes mark_bytes : List ℕ) (parameters : Parameters) (plan : List ℕ) (figure : ℕ) : Type 0 where
  pub site : Site
  pub tables : ValidTables level_bytes job_bytes mark_bytes parameters site
  -- it gives each job exactly its cycles between release and deadline, and loads no interval past its length × top frequency
  pub gives : Gives (top_of site.processor) site.jobs site.bounds (shares_of plan)
  -- "A fitting plan is promised to meet its deadlines": carried out, slot by slot as document 01 has it under Load, it is a schedule over
  -- the levels that serves every job, and has the plan's exact energy
  pub carried_out : CarriedOut site.processor.idle_power site.processor.levels site.jobs site.bounds (shares_of plan)
  -- so it is such a plan as demand 2 speaks of, with the figure that document 01 defines
  pub such_a_plan : SuchAPlan site plan figure
  -- the figure is at most the exact energy and less than m below it
  pub figure_low : gaps_of site * figure ≤ exact_for site plan
  pub figure_high : exact_for site plan < gaps_of site * (figure + band_count (working_of site.processor))

-- A plan that fits while some schedule that meets all deadlines needs less energy. The check refuses it, whatever the price list.
pub record FitsAndIsNotLeast (level_bytes job_bytes mark_bytes : List ℕ) (parameters : Parameters) (plan : List ℕ) (figure : ℕ) : Type 0 where
  pub fitting : fits level_bytes job_bytes mark_bytes parameters plan ≡ answer figure
  pub site : Site
  pub tables : ValidTables level_bytes job_bytes mark_bytes parameters site
  pub schedule : ScheduleFor site
  pub serves : Serves schedule
  pub less : gaps_of site * powers_for site schedule < schedule.q * exact_for site plan
  pub never_accepted : (prices : List ℕ) (other : ℕ) → check level_bytes job_bytes mark_bytes parameters plan prices ≡ answer other → ⊥

pub record CheckInTwoHalves : Type 0 where
  -- "one half gives levels, jobs, marks and 15 to 20"
  pub first_refuses : (level_bytes job_bytes mark_bytes : List ℕ) (parameters : Parameters) (plan : List ℕ)
      → RefusesBy (λ n. SiteNumbers n ⊎ From 15 20 n) (fits level_bytes job_bytes mark_bytes parameters plan)
  -- "and answers the energy figure": exactly for the plans that fit
  pub first_answers : (level_bytes job_bytes mark_bytes : List ℕ) (parameters : Parameters) (plan : List ℕ) (figure : ℕ)
      → (fits level_bytes job_bytes mark_bytes parameters plan ≡ answer figure) ↔ FittingPlan level_bytes job_bytes mark_bytes parameters plan figure
  -- "the other runs it, goes on to 21 to 24 and answers as the check did"
  pub second_runs_it : (level_bytes job_bytes mark_bytes : List ℕ) (parameters : Parameters) (plan prices : List ℕ)
      → check level_bytes job_bytes mark_bytes parameters plan prices
      ≡ (and_then (fits level_bytes job_bytes mark_bytes parameters plan) λ figure.
      and_then (read_site level_bytes job_bytes mark_bytes parameters) λ site.
      pricing site plan prices (answer figure))
  -- so what the first half refuses the check refuses, whatever the prices; what fits it refuses by 21 to 24 alone; and what it
  -- accepts fits, with the same figure
  pub same-refusal : (level_bytes job_bytes mark_bytes : List ℕ) (parameters : Parameters) (plan : List ℕ) (number place : ℕ)
      → fits level_bytes job_bytes mark_bytes parameters plan ≡ refused number place
      → (prices : List ℕ) → check level_bytes job_bytes mark_bytes parameters plan prices ≡ refused number place
  pub later_refusals : (level_bytes job_bytes mark_bytes : List ℕ) (parameters : Parameters) (plan : List ℕ) (figure : ℕ)
      → fits level_bytes job_bytes mark_bytes parameters plan ≡ answer figure
      → (prices : List ℕ) → RefusesBy (From 21 24) (check level_bytes job_bytes mark_bytes parameters plan prices)
  pub same_figure : (level_bytes job_bytes mark_bytes : List ℕ) (parameters : Parameters) (plan prices : List ℕ) (figure : ℕ)
      → check level_bytes job_bytes mark_bytes parameters plan prices ≡ answer figure → fits level_bytes job_bytes mark_bytes parameters plan ≡ answer figure
  -- every plan that planning writes fits, with the figure that it answered: there is a fitting plan wherever some schedule meets all
  -- deadlines
  pub planned : (call : Call) (intervals steps energy : ℕ) → call.answered ≡ Plan intervals steps energy
      → fits call.level_bytes call.job_bytes call.mark_bytes call.parameters (plan_written call steps) ≡ answer energy
  -- "only the second half promises least energy"
  pub second_is_least : (level_bytes job_bytes mark_bytes : List ℕ) (parameters : Parameters) (plan prices : List ℕ) (figure : ℕ)
      → check level_bytes job_bytes mark_bytes parameters plan prices ≡ answer figure
      → (site : Site) → ValidTables level_bytes job_bytes mark_bytes parameters site → LeastPlan site plan figure
  -- and the first cannot: T, one job 0 2 of 4 cycles, a mark at 1, all cycles before it
  pub first_is_not : FitsAndIsNotLeast (encode_levels T) (encode_jobs (job 0 2 4 ∷ [])) (encode_marks (1 ∷ [])) (full T) early_plan 1_600
