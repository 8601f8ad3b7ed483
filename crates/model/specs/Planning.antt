-- Planning (document 01, "Planning"): its refusals, and what a plan that comes out is.
use Rattle.std.specs.Prelude.{ℕ, ◌+◌, ◌-◌, ◌*◌, ◌<◌, ◌≤◌, min, ◌≡◌, cond, List, length, get_or, ℤ, ltb}
use Rattle.std.proofs.Math.Option.{Option, none, some}
use Rattle.model.specs.declared.Parameters.{Parameters}
use Rattle.model.specs.Outcome.{Outcome, refused, answer}
use Rattle.model.specs.Processors.{top_of}
use Rattle.model.specs.Intervals.{interval_count, open_pairs}
use Rattle.model.specs.Sites.{Site, read_site}
use Rattle.model.specs.Windows.{Window, spare_of, earliest_overfull}
use Rattle.model.specs.Steps.{step_count, shares_of}
use Rattle.model.specs.PriceBytes.{prices_of}
use Rattle.model.specs.Checking.{check_for}

-- Whether a plan comes out: a refusal with number and place, an overfull window with its spare (11), or a plan.
pub data PlanOutcome : Type 0 where
  refusal : (number place : ℕ) → PlanOutcome
  overfull : (start end : ℕ) → (spare : ℤ) → PlanOutcome
  comes_out : PlanOutcome

-- Reading first: its refusals are planning's.
abbrev pub after_reading : {A : Type 0} → Outcome A → (A → PlanOutcome) → PlanOutcome
after_reading (refused number place) next = refusal number place
after_reading (answer a) next = next a

-- 11: overfull; returned are the earliest such start, its earliest end, and the spare.
abbrev pub unless_overfull : Site → Option Window → PlanOutcome → PlanOutcome
unless_overfull site (some window) next =
    overfull window.start window.end (spare_of (top_of site.processor) site.jobs window.start window.end)
unless_overfull site none next = next

-- A buffer under the length wanted, which is the place.
abbrev pub wants : (number wanted room : ℕ) → PlanOutcome → PlanOutcome
wants number wanted room next = cond (ltb room wanted) (refusal number wanted) next

-- How many steps a plan may have: "the smaller of" jobs + intervals − 1 "and K" (document 02, Change 10). Without jobs it is 0: there are no
-- pairs, and subtraction ends at 0.
unfoldable pub step_limit : Site → ℕ
step_limit site = min (length site.jobs + interval_count site.bounds - 1) (open_pairs site.bounds site.jobs)

-- The lengths wanted: 4 + 6 × that limit bytes of the plan, "and 4 bytes for no jobs", 2 + 5N of the prices, and n × N shares.
abbrev pub plan_length : Site → ℕ
plan_length site = 4 + 6 * step_limit site

abbrev pub price_length : Site → ℕ
price_length site = 2 + 5 * interval_count site.bounds

abbrev pub share_count : Site → ℕ
share_count site = length site.jobs * interval_count site.bounds

-- 11. 12: plan buffer under 4 + 6 × the step limit bytes. 13: price buffer under 2 + 5N. 14: shares table under n × N numbers.
unfoldable pub plan_for : Site → (plan_room price_room share_room : ℕ) → PlanOutcome
plan_for site plan_room price_room share_room =
    unless_overfull site (earliest_overfull (top_of site.processor) site.jobs)
    (wants 12 (plan_length site) plan_room
    (wants 13 (price_length site) price_room
    (wants 14 (share_count site) share_room
    comes_out)))

-- Planning. Levels, then jobs, then marks, then 35 and 36, then 11 to 14.
unfoldable pub planning : (level_bytes job_bytes mark_bytes : List ℕ) → Parameters → (plan_room price_room share_room : ℕ) → PlanOutcome
planning level_bytes job_bytes mark_bytes parameters plan_room price_room share_room =
    after_reading (read_site level_bytes job_bytes mark_bytes parameters) λ site.
    plan_for site plan_room price_room share_room

-- What comes out for a site: N, S and the energy figure, the first 4 + 6S bytes of the plan, 2 + 5N bytes of the prices and
-- n × N shares. Which shares it has is free where several plans are equally cheap; this holds of them.
pub record Planned (site : Site) (intervals steps energy : ℕ) (plan prices shares : List ℕ) : Type 0 where
  pub interval-count : intervals ≡ interval_count site.bounds
  pub plan_size : length plan ≡ 4 + 6 * steps
  pub step_count_is : step_count plan ≡ steps
  -- "A planned site with at least one job must use at most jobs + intervals − 1 steps", and no plan has more than K
  pub few : steps ≤ step_limit site
  pub price_size : length prices ≡ 2 + 5 * intervals
  -- the check of exactly the bytes written accepts them and answers the same energy figure
  pub accepted : check_for site plan prices ≡ answer energy
  -- the prices are, interval by interval, the smallest that the check accepts for the plan
  pub smallest : (others : List ℕ) → check_for site plan others ≡ answer energy
      → (i : ℕ) → i < intervals → prices_of prices i ≤ prices_of others i
  -- the shares at interval × n + job are the plan's
  pub share-count : length shares ≡ length site.jobs * intervals
  pub same_shares : (i j : ℕ) → i < intervals → j < length site.jobs → get_or shares (i * length site.jobs + j) 0 ≡ shares_of plan i j
