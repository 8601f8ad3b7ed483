-- The listing of a site from its tables in bytes, and the contract of writing it.
use Rattle.std.specs.Prelude.{ℕ, ◌+◌, ◌-◌, ◌*◌, ◌≤◌, ◌≡◌, List, [], ◌∷◌, ◌++◌, length, take, drop, replicate, Ok, Err}
use Rattle.model.specs.Limits.{max_jobs, max_intervals}
use Rattle.model.specs.declared.refusal.Refusal.{Refusal}
use Rattle.model.specs.Outcome.{Outcome, refused, answer}
use Rattle.model.specs.Refusals.{number_of}
use Rattle.model.specs.SiteParameters.{as_given}
use Rattle.model.specs.Marks.{no_marks}
use Rattle.model.specs.Sites.{Site, read_given_site, GivenSiteNumbers}
use Rattle.model.specs.Plans.{shares_in}
use Rattle.model.specs.PriceBytes.{prices_of}
use Rattle.spare.specs.declared.unmet.NoAnswer.TheVariants.{Overfull, Refused}
use Rattle.planning.specs.MadePlans.{Buffers}
use Rattle.planning.specs.PlanAnswers.{PlanAnswer, PlanContract}
use Rattle.listing_lines.specs.TextLines.{overfull_line, refused_line}
use Rattle.listing_lines.specs.PlanText.{text_of_plan}
use Rattle.listing_lines.specs.Appending.{text_room}

-- "The listing reads [the marks] from marks.tbl, a missing, unreadable or empty file meaning none" (document 02, Change 6).
abbrev pub marks_of_file : List ℕ → List ℕ
marks_of_file [] = no_marks
marks_of_file (byte ∷ bytes) = byte ∷ bytes

-- The lengths of the buffers for plan, prices and shares: always enough, since a plan has at most jobs + intervals − 1 steps.
abbrev pub plan_room : ℕ
plan_room = 4 + 6 * (max_jobs + max_intervals - 1)

abbrev pub price_room : ℕ
price_room = 2 + 5 * max_intervals

abbrev pub share_room : ℕ
share_room = max_jobs * max_intervals

unfoldable pub zeros : ℕ → List ℕ
zeros n = replicate n 0

-- The buffers that planning is lent.
abbrev pub zero_buffers : Buffers
zero_buffers = record { plan = zeros plan_room; prices = zeros price_room; shares = zeros share_room }

-- The text for what planning a site answered and left in its buffers: of a plan the prices and the shares that were written.
-- No jobs give `sizes 0 0 0` and `energy 0`.
unfoldable pub site_text : Site → PlanAnswer → (left : Buffers) → List ℕ
site_text site (Ok written) left =
    text_of_plan site (prices_of (take (2 + 5 * written.intervals) left.prices)) (shares_in (length site.jobs) left.shares) written.steps written.energy
site_text site (Err (Overfull start end spare)) left = overfull_line start end spare
site_text site (Err (Refused own)) left = refused_line (number_of own.fault) own.place

-- A site that is refused has its refusal's line.
unfoldable pub listing_text : Outcome Site → PlanAnswer → (left : Buffers) → List ℕ
listing_text (refused number place) answered left = refused_line number place
listing_text (answer site) answered left = site_text site answered left

-- Planning answered and left something for the tables, with all their running levels, 0 and 0, so that they are listed as they are
-- given; and the text is that of its answer. Which plan is written is free where
-- several are equally cheap, so the text is a function of what planning answered and wrote.
pub record Listed (level_bytes job_bytes mark_bytes text : List ℕ) : Type 0 where
  pub answered : PlanAnswer
  pub left : Buffers
  pub planned : PlanContract level_bytes job_bytes mark_bytes (as_given level_bytes) zero_buffers left answered
  pub text_is : text ≡ listing_text (read_given_site level_bytes job_bytes mark_bytes) answered left
  -- "refused, number, place (1 to 10, and later numbers that its files can meet)": those of reading a site; no buffer is too
  -- short, and 11 is an overfull window
  pub of_reading : (own : Refusal) → answered ≡ Err (Refused own) → GivenSiteNumbers (number_of own.fault)

-- The whole promise: the length of a listing's text is answered, as many of its bytes as have room stand in the buffer, and the
-- rest of the buffer stays.
pub record ListingContract (level_bytes job_bytes mark_bytes before after : List ℕ) (answered : ℕ) : Type 0 where
  pub text : List ℕ
  pub listed : Listed level_bytes job_bytes mark_bytes text
  pub length_is : answered ≡ length text
  pub written : after ≡ take (length before) text ++ drop (length text) before
  pub fits : length text ≤ text_room
