-- The check in two halves: the first half answers exactly for a plan that fits, and the check runs it and goes on.
-- Assumes nothing.
use mathlib.Core.Path.{◌≡◌, refl, ap, sym}
use mathlib.Core.List.{List}
use Prim.Native.Nat.{ℕ}
use Rattle.model.specs.declared.Parameters.{Parameters}
use Rattle.model.specs.Outcome.{Outcome, refused, answer, and_then}
use Rattle.model.specs.Sites.{Site, read_site}
use Rattle.model.specs.Checking.{pricing, figure_of, fits_for, fits, check_for, check}
use Rattle.model.specs.TwoHalves.{FitsExactly, CheckRunsFits}
use Rattle.model.proofs.Outcome.{answer_injective, and_then_answered}
use Rattle.model.proofs.FittingHalf.{fitting_half, after_fitting}

pub fits_exactly : FitsExactly
unfolding fits_for
fits_exactly site plan figure =
    let half = fitting_half site plan (answer (figure_of site plan)) figure in (
      λ e.
          let (plan-gives, e) = half.0 e in
          (record { is-plan = plan-gives.0; gives = plan-gives.1 }, sym (answer_injective e)),
      λ h.
          let (fits, figure_is) = h in
          half.1 ((fits.is-plan, fits.gives), ap answer (sym figure_is)),
    )

pub check_runs_fits : CheckRunsFits
unfolding fits_for check_for
check_runs_fits site plan prices = sym (after_fitting site plan (λ figure. pricing site plan prices (answer figure)) (answer (figure_of site plan)))

-- once the tables were read, the plan is held against their site
pub fits_read : (level_bytes job_bytes mark_bytes : List ℕ) (parameters : Parameters) (plan : List ℕ) (site : Site) → read_site level_bytes job_bytes mark_bytes parameters ≡ answer site
    → fits level_bytes job_bytes mark_bytes parameters plan ≡ fits_for site plan
unfolding fits
fits_read level_bytes job_bytes mark_bytes parameters plan site read = rw read

-- a plan fits only tables that are read
pub fits_reads : (level_bytes job_bytes mark_bytes : List ℕ) (parameters : Parameters) (plan : List ℕ) (figure : ℕ) → fits level_bytes job_bytes mark_bytes parameters plan ≡ answer figure
    → (site : Site) × (read_site level_bytes job_bytes mark_bytes parameters ≡ answer site) × (fits_for site plan ≡ answer figure)
unfolding fits
fits_reads level_bytes job_bytes mark_bytes parameters plan figure e = and_then_answered (read_site level_bytes job_bytes mark_bytes parameters) _ e

-- The check, from bytes, is the first half from bytes and then 21 to 24 of the site that was read.
pub check_goes_on : (level_bytes job_bytes mark_bytes : List ℕ) (parameters : Parameters) (plan prices : List ℕ)
    → check level_bytes job_bytes mark_bytes parameters plan prices
    ≡ (and_then (fits level_bytes job_bytes mark_bytes parameters plan) λ figure.
    and_then (read_site level_bytes job_bytes mark_bytes parameters) λ site.
    pricing site plan prices (answer figure))
unfolding check fits
check_goes_on level_bytes job_bytes mark_bytes parameters plan prices = go (read_site level_bytes job_bytes mark_bytes parameters)
  where
    go : (read : Outcome Site)
        → and_then read (λ site. check_for site plan prices)
        ≡ and_then (and_then read (λ site. fits_for site plan)) (λ figure. and_then read (λ site. pricing site plan prices (answer figure)))
    go (refused number place) = refl
    go (answer site) = check_runs_fits site plan prices
