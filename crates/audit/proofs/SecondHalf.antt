-- The second half of the check, one law for each way out of the code; and the check of a site where the first half refused, and where it
-- passed.
-- Assumes nothing.
use mathlib.Core.Path.{◌≡◌, sym, ◌∙◌}
use mathlib.Core.List.{List}
use Prim.Native.Nat.{ℕ}
use Rattle.std.specs.Prelude.{Result, Ok, Err}
use Rattle.model.specs.declared.refusal.Refusal.{Refusal}
use Rattle.model.specs.Outcome.{answer}
use Rattle.model.specs.Sites.{Site}
use Rattle.model.specs.Checking.{pricing, fits_for, check_for}
use Rattle.model.proofs.PricingHalf.{after_pricing}
use Rattle.model.proofs.Refusals.{returned_answered, passed_on, refused_returned}
use Rattle.model.proofs.TwoHalves.{check_runs_fits}
use Rattle.fitting.specs.Verdicts.{verdict_of, passed}
use Rattle.fitting.proofs.Verdicts.{Both, both_refused, both_passed}
use Rattle.audit.specs.Answers.{fits_answer, check_answer}

module _ (site : Site) (plan prices : List ℕ) (energy : ℕ) (verdict : Result (Unit {0}) Refusal) (judged : verdict ≡ verdict_of (pricing site plan prices passed)) where
  -- the second half, and then the figure
  pricing_both : Both (pricing site plan prices passed) (answer energy) (pricing site plan prices (answer energy))
  pricing_both = record { is = sym (after_pricing site plan prices (λ _. answer energy) passed) }

  pub prices_refused : (own : Refusal) → verdict ≡ Err own → Err own ≡ check_answer (pricing site plan prices (answer energy))
  prices_refused own e = refused_returned _ (both_refused (pricing site plan prices passed) _ pricing_both own (sym judged ∙ e))

  pub prices_passed : verdict ≡ Ok tt → Ok energy ≡ check_answer (pricing site plan prices (answer energy))
  prices_passed e = rw (both_passed (pricing site plan prices passed) _ pricing_both (sym judged ∙ e))

module _ (site : Site) (plan prices : List ℕ) where
  pub check_refused : (own : Refusal) → Err own ≡ fits_answer (fits_for site plan) → Err own ≡ check_answer (check_for site plan prices)
  check_refused own e = rw (check_runs_fits site plan prices) (passed_on _ (fits_for site plan) _ _ own (sym e))

  pub check_continued : (energy : ℕ) → Ok energy ≡ fits_answer (fits_for site plan)
      → check_for site plan prices ≡ pricing site plan prices (answer energy)
  check_continued energy e =
      let (figure, is, same) = returned_answered _ (fits_for site plan) energy (sym e) in
      check_runs_fits site plan prices ∙ rw (is, same)
