-- A refusal of planning is one answer: it has the fault that has its number.
-- Assumes nothing.
use mathlib.Core.Path.{◌≡◌, refl, sym, ◌∙◌, ap}
use Prim.Native.Nat.{ℕ}
use native.Mathlib.Omega.{arith}
use Rattle.std.specs.Prelude.{Ok, Err}
use Rattle.model.specs.declared.refusal.Fault.{Fault}
use Rattle.model.specs.declared.refusal.Fault.TheVariants.{LevelsTooShort, LevelCount, LevelsLength, LevelFrequency, LevelVoltage, JobsTooShort, JobCount, JobsLength, JobWindow, JobCycles, OverfullWindow, PlanRoom, PricesRoom, ListRoom, PlanLength, PlanIntervals, StepPair, StepCycles, JobSum, IntervalLoad, PricesLength, PriceEntry, PriceLoad, CheaperInterval, IntervalLength, LoadAboveTop, WindowBounds, TaskTable, RoundLength, RoundJobs, IdleAlone, IdleDraw, SpanBounds, Marks, Parameter, AlteredJob}
use Rattle.model.specs.declared.refusal.Refusal.{Refusal}
use Rattle.model.specs.Refusals.{number_of, fault_numbered, refusal as refusal_at}
use Rattle.model.specs.Planning.{refusal}
use Rattle.spare.specs.declared.unmet.NoAnswer.TheVariants.{Overfull, Refused as RefusedBy}
use Rattle.planning.specs.PlanAnswers.{PlanAnswer, Refused, outcome_of}

-- a fault is the one with its number
numbered_number : (fault : Fault) → fault_numbered (number_of fault) ≡ fault
numbered_number LevelsTooShort = refl
numbered_number LevelCount = refl
numbered_number LevelsLength = refl
numbered_number LevelFrequency = refl
numbered_number LevelVoltage = refl
numbered_number JobsTooShort = refl
numbered_number JobCount = refl
numbered_number JobsLength = refl
numbered_number JobWindow = refl
numbered_number JobCycles = refl
numbered_number OverfullWindow = refl
numbered_number PlanRoom = refl
numbered_number PricesRoom = refl
numbered_number ListRoom = refl
numbered_number PlanLength = refl
numbered_number PlanIntervals = refl
numbered_number StepPair = refl
numbered_number StepCycles = refl
numbered_number JobSum = refl
numbered_number IntervalLoad = refl
numbered_number PricesLength = refl
numbered_number PriceEntry = refl
numbered_number PriceLoad = refl
numbered_number CheaperInterval = refl
numbered_number IntervalLength = refl
numbered_number LoadAboveTop = refl
numbered_number WindowBounds = refl
numbered_number TaskTable = refl
numbered_number RoundLength = refl
numbered_number RoundJobs = refl
numbered_number IdleAlone = refl
numbered_number IdleDraw = refl
numbered_number SpanBounds = refl
numbered_number Marks = refl
numbered_number Parameter = refl
numbered_number AlteredJob = refl

own_refusal : (own : Refusal) (number place : ℕ) → number_of own.fault ≡ number → own.place ≡ place → own ≡ refusal_at number place
own_refusal own number place same_number same_place =
    let fault : own.fault ≡ fault_numbered number = sym (numbered_number own.fault) ∙ ap fault_numbered same_number in
    λ k. record { fault = fault k; place = same_place k }

pub refused_answer : (answered : PlanAnswer) (number place : ℕ) → outcome_of answered ≡ refusal number place → answered ≡ Refused number place
refused_answer (Ok written) number place e = let z : ◌≡◌ {A = ℕ} 0 1 = cc e in absurd (omega (arith, z))
refused_answer (Err (Overfull start end spare)) number place e = let z : ◌≡◌ {A = ℕ} 0 1 = cc e in absurd (omega (arith, z))
refused_answer (Err (RefusedBy own)) number place e =
    let same_number : number_of own.fault ≡ number = cc e in
    let same_place : own.place ≡ place = cc e in
    ap (λ (r : Refusal). Err (RefusedBy r)) (own_refusal own number place same_number same_place)
