-- What an operation gives that works on a set of jobs which fits: a refusal with its number and place, the earliest overfull window with its
-- spare (11), or an answer.
use Rattle.std.specs.Prelude.{ℕ, cond, ℤ, ltb}
use Rattle.std.proofs.Math.Option.{Option, none, some}
use Rattle.model.specs.Outcome.{Outcome, refused, answer}
use Rattle.model.specs.Processors.{top_of}
use Rattle.model.specs.Sites.{Tables}
use Rattle.model.specs.Windows.{Window, spare_of, earliest_overfull}

pub data SetOutcome (A : Type 0) : Type 0 where
  refusal : (number place : ℕ) → SetOutcome A
  overfull : (start end : ℕ) → (spare : ℤ) → SetOutcome A
  answered : A → SetOutcome A

-- Reading first: its refusals are the operation's.
abbrev pub after_tables : {A : Type 0} → Outcome Tables → (Tables → SetOutcome A) → SetOutcome A
after_tables (refused number place) next = refusal number place
after_tables (answer tables) next = next tables

-- 11: "An overfull set has no list and gives 11"; returned are the earliest such window and its spare, as planning returns them.
abbrev pub unless_found : {A : Type 0} → Tables → Option Window → SetOutcome A → SetOutcome A
unless_found tables (some window) next =
    overfull window.start window.end (spare_of (top_of tables.processor) tables.jobs window.start window.end)
unless_found tables none next = next

abbrev pub unless_overfull : {A : Type 0} → Tables → SetOutcome A → SetOutcome A
unless_overfull tables next = unless_found tables (earliest_overfull (top_of tables.processor) tables.jobs) next

-- A lent list under the length wanted, which is the place.
abbrev pub wants : {A : Type 0} → (number wanted room : ℕ) → SetOutcome A → SetOutcome A
wants number wanted room next = cond (ltb room wanted) (refusal number wanted) next
