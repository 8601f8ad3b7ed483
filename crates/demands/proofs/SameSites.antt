-- Tables that are read as the same site have the same answers: planning's contract, both halves of the check and ordering look at
-- the site alone.
-- Assumes nothing.
use mathlib.Core.Path.{◌≡◌, ◌∙◌}
use mathlib.Core.List.{List}
use Prim.Native.Nat.{ℕ}
use Rattle.model.specs.declared.Parameters.{Parameters}
use Rattle.model.specs.Sites.{read_site}
use Rattle.model.specs.Checking.{fits, check}
use Rattle.model.specs.Planning.{planning}
use Rattle.planning.specs.MadePlans.{Buffers}
use Rattle.planning.specs.PlanAnswers.{PlanAnswer, PlanContract}
use Rattle.ordering.specs.Ordering.{order}

module _ (levels jobs marks : List ℕ) (parameters : Parameters) (other_levels other_jobs other_marks : List ℕ) (other_parameters : Parameters)
    (same : read_site levels jobs marks parameters ≡ read_site other_levels other_jobs other_marks other_parameters) where
  pub contract_kept : (before after : Buffers) (answered : PlanAnswer) → PlanContract levels jobs marks parameters before after answered
      → PlanContract other_levels other_jobs other_marks other_parameters before after answered
  unfolding planning
  contract_kept before after answered contract =
      record {
        outcome = rw (← same) contract.outcome;
        untouched = contract.untouched;
        written = λ site read. contract.written site (same ∙ read);
        best = λ site read. contract.best site (same ∙ read);
        window = λ site read. contract.window site (same ∙ read);
        never_served = λ site read. contract.never_served site (same ∙ read);
        exactly_when_served = λ site read. contract.exactly_when_served site (same ∙ read);
      }

  pub fits_kept : (plan : List ℕ) → fits levels jobs marks parameters plan ≡ fits other_levels other_jobs other_marks other_parameters plan
  unfolding fits
  fits_kept plan = rw same

  pub checks_kept : (plan prices : List ℕ) → check levels jobs marks parameters plan prices ≡ check other_levels other_jobs other_marks other_parameters plan prices
  unfolding check
  checks_kept plan prices = rw same

  pub orders_kept : (plan prices : List ℕ) (room : ℕ) → order levels jobs marks parameters plan prices room ≡ order other_levels other_jobs other_marks other_parameters plan prices room
  unfolding order
  orders_kept plan prices room = rw (checks_kept plan prices)
