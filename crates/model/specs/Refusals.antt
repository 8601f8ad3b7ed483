-- Refusals as the code has them: a fault by its name, and its place. The numbers are those of the table of documents 01 and 02.
use Rattle.std.specs.Prelude.{◌≡◌, ℕ, zero, suc, ◌-◌, List, [], ◌∷◌, get_or, Option, None, Some, Result, Ok, Err}
use Rattle.model.specs.declared.refusal.Fault.{Fault}
use Rattle.model.specs.declared.refusal.Fault.TheVariants.{LevelsTooShort, LevelCount, LevelsLength, LevelFrequency, LevelVoltage, JobsTooShort, JobCount, JobsLength, JobWindow, JobCycles, OverfullWindow, PlanRoom, PricesRoom, ListRoom, PlanLength, PlanIntervals, StepPair, StepCycles, JobSum, IntervalLoad, PricesLength, PriceEntry, PriceLoad, CheaperInterval, IntervalLength, LoadAboveTop, WindowBounds, TaskTable, RoundLength, RoundJobs, IdleAlone, IdleDraw, SpanBounds, Marks, Parameter, AlteredJob}
use Rattle.model.specs.declared.refusal.Refusal.{Refusal}
use Rattle.model.specs.Outcome.{Outcome, refused, answer}

-- A fault's number.
abbrev pub number_of : Fault → ℕ
number_of LevelsTooShort = 1
number_of LevelCount = 2
number_of LevelsLength = 3
number_of LevelFrequency = 4
number_of LevelVoltage = 5
number_of JobsTooShort = 6
number_of JobCount = 7
number_of JobsLength = 8
number_of JobWindow = 9
number_of JobCycles = 10
number_of OverfullWindow = 11
number_of PlanRoom = 12
number_of PricesRoom = 13
number_of ListRoom = 14
number_of PlanLength = 15
number_of PlanIntervals = 16
number_of StepPair = 17
number_of StepCycles = 18
number_of JobSum = 19
number_of IntervalLoad = 20
number_of PricesLength = 21
number_of PriceEntry = 22
number_of PriceLoad = 23
number_of CheaperInterval = 24
number_of IntervalLength = 25
number_of LoadAboveTop = 26
number_of WindowBounds = 27
number_of TaskTable = 28
number_of RoundLength = 29
number_of RoundJobs = 30
number_of IdleAlone = 31
number_of IdleDraw = 32
number_of SpanBounds = 33
number_of Marks = 34
number_of Parameter = 35
number_of AlteredJob = 36

-- All faults, in the order of their numbers.
abbrev pub faults : List Fault
faults =
    LevelsTooShort
    ∷ LevelCount
    ∷ LevelsLength
    ∷ LevelFrequency
    ∷ LevelVoltage
    ∷ JobsTooShort
    ∷ JobCount
    ∷ JobsLength
    ∷ JobWindow
    ∷ JobCycles
    ∷ OverfullWindow
    ∷ PlanRoom
    ∷ PricesRoom
    ∷ ListRoom
    ∷ PlanLength
    ∷ PlanIntervals
    ∷ StepPair
    ∷ StepCycles
    ∷ JobSum
    ∷ IntervalLoad
    ∷ PricesLength
    ∷ PriceEntry
    ∷ PriceLoad
    ∷ CheaperInterval
    ∷ IntervalLength
    ∷ LoadAboveTop
    ∷ WindowBounds
    ∷ TaskTable
    ∷ RoundLength
    ∷ RoundJobs
    ∷ IdleAlone
    ∷ IdleDraw
    ∷ SpanBounds
    ∷ Marks
    ∷ Parameter
    ∷ AlteredJob
    ∷ []

-- The fault with a number. No other numbers are asked for: each refusal of each operation has one of the table
-- (proofs/RefusalNumbers.antt), and of those the fault has that number again (proofs/Refusals.antt).
abbrev pub fault_numbered : ℕ → Fault
fault_numbered number = get_or faults (number - 1) AlteredJob

-- The fault with a number, where 0 stands for none.
abbrev pub fault_of : ℕ → Option Fault
fault_of zero = None
fault_of (suc n) = Some (fault_numbered (suc n))

-- A refusal by its number and place.
abbrev pub refusal : (number place : ℕ) → Refusal
refusal number place = record { fault = fault_numbered number; place = place }

-- What an operation returns for an outcome: its answer, as the code has it, or the refusal.
abbrev pub returned_by : {A B : Type 0} → (A → B) → Outcome A → Result B Refusal
returned_by form (refused number place) = Err (refusal number place)
returned_by form (answer a) = Ok (form a)

-- The same where the code has the answer as it is.
abbrev pub returned : {A : Type 0} → Outcome A → Result A Refusal
returned outcome = returned_by (λ a. a) outcome

-- The same where what the code returns holds the answer in a form of its own, which a relation tells.
abbrev pub Returns : {A B : Type 0} → (A → B → Type 0) → Outcome A → Result B Refusal → Type 0
Returns Holds (refused number place) (Err own) = own ≡ refusal number place
Returns Holds (refused number place) (Ok b) = ⊥
Returns Holds (answer a) (Err own) = ⊥
Returns Holds (answer a) (Ok b) = Holds a b
