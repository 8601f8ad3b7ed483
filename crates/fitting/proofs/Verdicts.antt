-- Laws of going through entries: what the verdict is where a loop ends, and what a verdict says of the refusals that
-- come before whatever is next.
-- Assumes nothing.
use mathlib.Core.Path.{◌≡◌, refl, sym, ◌∙◌, ap}
use mathlib.Core.Bool.{Bool, true, false, not}
use mathlib.Core.List.{List}
use Prim.Native.Nat.{ℕ, zero, suc, ◌+◌, ◌<◌}
use native.Mathlib.Omega.{arith}
use lib.Dec.{eqb}
use Rattle.std.specs.Prelude.{Some, Result, Ok, Err}
use Rattle.model.specs.declared.Job.{Job}
use Rattle.model.specs.declared.refusal.Fault.{Fault}
use Rattle.model.specs.declared.refusal.Refusal.{Refusal}
use Rattle.model.specs.Outcome.{Outcome, refused, answer, and_then, refuse_when, by_entry_from, by_entry}
use Rattle.model.specs.Intervals.{interval_count}
use Rattle.model.specs.Steps.{plan_intervals, wrong_plan_length}
use Rattle.model.specs.Checking.{stepping}
use Rattle.model.specs.Refusals.{fault_of}
use Rattle.model.proofs.Numbers.{true≢false}
use Rattle.model.proofs.Outcome.{after_test, after-entries}
use Rattle.model.proofs.Refusals.{RefusedBy, err≢ok, returned_refused, refused_then, entry_stops, entries_pass}
use Rattle.fitting.specs.Verdicts.{verdict_of, passed}

-- the first entry with a fault ends the loop
pub verdict_stops : (count : ℕ) (fault : ℕ → ℕ) (i : ℕ) (own : Fault) → ((k : ℕ) → k < i → fault k ≡ 0) → i < count → fault_of (fault i) ≡ Some own
    → Err (record { fault = own; place = i }) ≡ verdict_of (by_entry count fault passed)
verdict_stops count fault i own sound below found = entry_stops _ count fault passed i own sound below found

-- with no fault nothing is wrong
pub verdict_passes : (count : ℕ) (fault : ℕ → ℕ) → ((k : ℕ) → k < count → fault k ≡ 0) → Ok tt ≡ verdict_of (by_entry count fault passed)
verdict_passes count fault sound = entries_pass (λ (a : Unit {0}). a) count fault passed sound

-- a refusal does not pass
pub refused_passes : {A : Type 0} → false ≡ true → A
refused_passes e = absurd (true≢false (sym e))

-- faults that agree give the same outcome
from_cong : {A : Type 0} (first count : ℕ) (f g : ℕ → ℕ) (next : Outcome A) → ((i : ℕ) → i < first + count → f i ≡ g i)
    → by_entry_from first count f next ≡ by_entry_from first count g next
unfolding by_entry_from
from_cong first zero f g next same = refl
from_cong first (suc count) f g next same =
    rw (same first (omega arith), from_cong (suc first) count f g next (λ i below. same i (omega arith)))

pub by_entry_cong : {A : Type 0} (count : ℕ) (f g : ℕ → ℕ) (next : Outcome A) → ((i : ℕ) → i < count → f i ≡ g i)
    → by_entry count f next ≡ by_entry count g next
by_entry_cong count f g next same = from_cong 0 count f g next (λ i below. same i (omega arith))

-- One operation and then another are both together.
pub record Both {A B : Type 0} (first : Outcome A) (next all : Outcome B) : Type 0 where
  pub is : all ≡ and_then first (λ _. next)

-- a refusal in front of the first stands in front of both
module _ {A B : Type 0} {next : Outcome B} where
  pub both_alone : (a : A) → Both (answer a) next next
  both_alone a = record { is = refl }

  pub both_when : {first : Outcome A} {all : Outcome B} (condition : Bool) (number : ℕ) → Both first next all
      → Both (refuse_when condition number first) next (refuse_when condition number all)
  both_when {first} condition number both =
      record { is = ap (refuse_when condition number) both.is ∙ sym (after_test first (λ _. next) condition number) }

  pub both_entries : {first : Outcome A} {all : Outcome B} (count : ℕ) (fault : ℕ → ℕ) → Both first next all
      → Both (by_entry count fault first) next (by_entry count fault all)
  both_entries {first} count fault both =
      record { is = ap (by_entry count fault) both.is ∙ sym (after-entries (λ _. next) 0 count fault first) }

  pub both_stepping : {first : Outcome A} {all : Outcome B} (jobs : List Job) (bounds plan : List ℕ) → Both first next all
      → Both (stepping jobs bounds plan first) next (stepping jobs bounds plan all)
  both_stepping jobs bounds plan both =
      both_when (wrong_plan_length plan) 15
      (both_when (not (eqb (plan_intervals plan) (interval_count bounds))) 16
      (both_entries _ _ both))

  -- what the verdict on the first says of both
  pub both_refused : (first : Outcome A) (all : Outcome B) → Both first next all → (own : Refusal) → verdict_of first ≡ Err own → RefusedBy all own
  both_refused first all both own e = rw both.is (refused_then (λ _. next) (returned_refused _ first own e))

  pub both_passed : (first : Outcome A) (all : Outcome B) → Both first next all → verdict_of first ≡ Ok tt → all ≡ next
  both_passed (refused n p) all both e = absurd (err≢ok e)
  both_passed (answer a) all both e = both.is

-- what a verdict on entries says of them and whatever is next
module _ {B : Type 0} (next : Outcome B) (count : ℕ) (fault : ℕ → ℕ) (verdict : Result (Unit {0}) Refusal)
    (found : verdict ≡ verdict_of (by_entry count fault passed)) where
  pub entries_refused : (own : Refusal) → verdict ≡ Err own → RefusedBy (by_entry count fault next) own
  entries_refused own e = both_refused (by_entry count fault passed) _ (both_entries count fault (both_alone tt)) own (sym found ∙ e)

  pub entries_passed : verdict ≡ Ok tt → by_entry count fault next ≡ next
  entries_passed e = both_passed (by_entry count fault passed) _ (both_entries count fault (both_alone tt)) (sym found ∙ e)
