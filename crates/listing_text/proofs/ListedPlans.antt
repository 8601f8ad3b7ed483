-- A plan for the site that was read, in the arrays that the site is read into: its lines can be written, and they are its text.
-- Assumes nothing.
use mathlib.Core.Path.{◌≡◌, refl, sym, ◌∙◌, ap}
use mathlib.Core.List.{List}
use Prim.Native.Nat.{ℕ, suc, ◌+◌, ◌-◌, ◌*◌, ◌<◌, ◌≤◌}
use native.Mathlib.Nat.{mul-le-mul_right}
use native.Mathlib.Omega.{arith}
use lib.ListN.{length, get_or, take, length-take}
use lib.Seq.{get_or-take}
use Rattle.std.specs.Prelude.{Result, Ok, Err}
use Rattle.std.specs.Result.{IsOk}
use Rattle.model.specs.declared.Parameters.{Parameters}
use Rattle.model.specs.declared.refusal.Refusal.{Refusal}
use Rattle.model.specs.Outcome.{Outcome, answer}
use Rattle.model.specs.Sum.{sum}
use Rattle.model.specs.Processors.{working_of, top_of}
use Rattle.model.specs.Intervals.{bound_at, length_of}
use Rattle.model.specs.Sites.{Site, read_site, ValidSite}
use Rattle.model.specs.Plans.{load, shares_in}
use Rattle.model.specs.Steps.{shares_of}
use Rattle.model.specs.PriceBytes.{prices_of}
use Rattle.model.specs.Planning.{Planned}
use Rattle.model.specs.Accepted.{Accepted}
use Rattle.model.proofs.Sum.{sum_cong}
use Rattle.model.proofs.Outcome.{refused≢answer, answer_injective}
use Rattle.model.proofs.Refusals.{returns_refused}
use Rattle.model.proofs.Sites.{sites_are_valid}
use Rattle.model.proofs.Accepted.{check_accepts}
use Rattle.levels.specs.PointTables.{points_of}
use Rattle.settings.specs.Settings.{Fits}
use Rattle.site.specs.declared.SiteTable.{SiteTable}
use Rattle.site.specs.SiteTables.{HoldsSite, SiteRead}
use Rattle.site.proofs.HeldSites.{held_jobs_counted, held_points, held_small, held_curve, held_top_point, held_bounds, held_bounds_small}
use Rattle.intervals.specs.Times.{SmallBounds}
use Rattle.model.proofs.Joined.{joined_cong}
use Rattle.listing_lines.specs.PlanText.{span_lines, plan_text, text_of_plan}
use Rattle.listing_text.specs.ShownPlans.{bounds_in, prices_in, ShownPlan, ListedPlan}

-- a site that is read is returned
pub returned_site : (outcome : Outcome Site) (site : Site) → outcome ≡ answer site → (releases deadlines cycles times : List ℕ)
    → (result : Result SiteTable Refusal) → SiteRead outcome result releases deadlines cycles times → IsOk result
returned_site outcome site is releases deadlines cycles times (Ok table) read = refl
returned_site outcome site is releases deadlines cycles times (Err own) read =
    absurd (refused≢answer (sym (returns_refused _ outcome own read).outcome_is ∙ is))

module _ {level_bytes job_bytes mark_bytes : List ℕ} {parameters : Parameters} {intervals steps energy : ℕ} {prices shares : List ℕ}
    (listed : ListedPlan level_bytes job_bytes mark_bytes parameters intervals steps energy prices shares)
    (site : Site) (site_read : read_site level_bytes job_bytes mark_bytes parameters ≡ answer site) where
  abbrev plan : List ℕ
  plan = listed.plan

  abbrev price_list : List ℕ
  price_list = take (2 + 5 * intervals) prices

  abbrev jobs : ℕ
  jobs = length site.jobs

  planned : Planned site intervals steps energy plan price_list (take (jobs * intervals) shares)
  planned = let same : listed.site ≡ site = answer_injective (sym listed.site_read ∙ site_read) in rw same at listed.planned

  valid : ValidSite site
  valid = sites_are_valid level_bytes job_bytes mark_bytes parameters site site_read

  accepted : Accepted site plan price_list
  accepted = ((check_accepts site plan price_list energy).0 planned.accepted).0

  share_same : (i j : ℕ) → i < intervals → j < jobs → shares_in jobs shares i j ≡ shares_of plan i j
  share_same i j below inside =
      sym (get_or-take (jobs * intervals) shares (i * jobs + j) 0 (omega (arith, mul-le-mul_right jobs below)))
      ∙ planned.same_shares i j below inside

  load_fits : (i : ℕ) → i < intervals → sum jobs (shares_in jobs shares i) ≤ length_of site.bounds i * top_of site.processor
  unfolding load
  load_fits i below =
      rw (sum_cong jobs {g = shares_of plan i} (λ j inside. share_same i j below inside))
      (accepted.gives.fits i (omega (arith, planned.interval-count)))

  price_same : (i : ℕ) → i < intervals → prices_in intervals prices i ≡ prices_of price_list i
  unfolding prices_of
  price_same i below =
      let counted = accepted.is_price_list.intervals ∙ sym planned.interval-count in
      rw counted (sym (get_or-take (2 + 5 * intervals) prices (2 + 4 * intervals + i) 0 (omega arith)))

  module _ {table : SiteTable} {releases deadlines cycles times : List ℕ} (holds : HoldsSite site table releases deadlines cycles times) where
    small : SmallBounds (length site.bounds) times
    small = rw holds.bounds_are.counted at (held_bounds_small valid holds)

    time_same : (i : ℕ) → i < length site.bounds → bounds_in times i ≡ bound_at site.bounds i
    time_same i below =
        sym (get_or-take (length site.bounds) times i 0 below)
        ∙ ap (λ (l : List ℕ). get_or l i 0) (rw holds.bounds_are.counted at (held_bounds valid holds))

    -- interval i lies between bounds i and i + 1
    both : (i : ℕ) → i < intervals → suc i < length site.bounds
    both i below = omega (arith, planned.interval-count)

    length_same : (i : ℕ) → i < intervals → length_of site.bounds i ≡ bounds_in times (suc i) - bounds_in times i
    unfolding length_of
    length_same i below = rw (time_same i (omega (arith, both i below)), time_same (suc i) (both i below))

    load_set : (i : ℕ) → i < intervals
        → Fits (points_of table.working) (bounds_in times (suc i) - bounds_in times i) (sum jobs (shares_in jobs shares i))
    load_set i below = rw (held_top_point valid holds, holds.top_is, ← length_same i below) (load_fits i below)

    pub shown-plan : ShownPlan table.working table.jobs intervals times prices shares
    shown-plan =
        rw (held_jobs_counted valid holds)
        (record {
          small = held_small valid holds;
          curve = held_curve valid holds;
          few_jobs = valid.jobs.few;
          few_intervals = omega (arith, planned.interval-count, valid.few_bounds);
          price-room = omega (arith, planned.price_size, length-take (2 + 5 * intervals) prices);
          share-room = omega (arith, planned.share-count, length-take (jobs * intervals) shares);
          rises = λ i below. small.rising.rises i (both i below);
          within = λ i below. small.last (suc i) (both i below);
          fits = load_set;
        })

    spans_same : span_lines (working_of site.processor) jobs intervals (bounds_in times) (prices_in intervals prices) (shares_in jobs shares)
        ≡ span_lines (working_of site.processor) jobs intervals (bound_at site.bounds) (prices_of price_list) (shares_in jobs shares)
    unfolding span_lines
    spans_same =
        joined_cong intervals _ _
        (λ i below. rw (time_same i (omega (arith, both i below)), time_same (suc i) (both i below), price_same i below))

    pub shown_text : plan_text (points_of table.working) table.jobs intervals (bounds_in times) (prices_in intervals prices) (shares_in table.jobs shares) steps energy
        ≡ text_of_plan site (prices_of price_list) (shares_in jobs shares) steps energy
    unfolding plan_text
    shown_text = rw (held_points valid holds, held_jobs_counted valid holds, spans_same, planned.interval-count)
