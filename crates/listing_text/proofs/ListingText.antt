-- What was put into the buffer, and what planning answered and left, make the contract of the listing.
-- Assumes nothing.
use mathlib.Core.Path.{◌≡◌, refl, sym, ◌∙◌, ap}
use mathlib.Core.List.{List, [], ◌∷◌, ◌++◌}
use Prim.Native.Nat.{ℕ, suc, ◌+◌, ◌*◌}
use native.Mathlib.Omega.{arith}
use lib.ListN.{length, take, drop, set}
use lib.IntN.{ℤ}
use lib.Seq.{sets, take-nil}
use Rattle.std.specs.Prelude.{Err}
use Rattle.model.specs.declared.Parameters.{Parameters}
use Rattle.model.specs.declared.refusal.Refusal.{Refusal}
use Rattle.model.specs.Outcome.{Outcome, refused, answer}
use Rattle.model.specs.Refusals.{number_of}
use Rattle.model.specs.SiteParameters.{as_given}
use Rattle.model.specs.Sites.{Site, read_site, read_given_site}
use Rattle.model.specs.Plans.{shares_in}
use Rattle.model.specs.PriceBytes.{prices_of}
use Rattle.model.proofs.Sites.{as_given_alters_nothing}
use Rattle.model.proofs.RefusalNumbers.{given_site_by}
use Rattle.spare.specs.declared.unmet.NoAnswer.TheVariants.{Refused}
use Rattle.planning.specs.MadePlans.{Buffers}
use Rattle.planning.specs.PlanAnswers.{PlanAnswer, Plan, Overfull, PlanContract}
use Rattle.planning.proofs.PlanStages.{site_planned, plan_read}
use Rattle.listing_lines.specs.TextLines.{overfull_line, refused_line}
use Rattle.listing_lines.specs.PlanText.{text_of_plan}
use Rattle.listing_lines.specs.Appending.{text_room, Appended}
use Rattle.listing_text.specs.ShownPlans.{ListedPlan}
use Rattle.listing_text.specs.Listings.{zeros, plan_room, price_room, share_room, zero_buffers, site_text, listing_text, ListingContract}
use Rattle.listing_text.proofs.ListedRefusals.{reading_refused}

sets_shift : (y : ℕ) (l : List ℕ) (i : ℕ) (bytes : List ℕ) → sets (y ∷ l) (suc i) bytes ≡ y ∷ sets l i bytes
sets_shift y l i [] = refl
sets_shift y l i (b ∷ bytes) = sets_shift y (set l i b) (suc i) bytes

sets_nil : (i : ℕ) (bytes : List ℕ) → sets [] i bytes ≡ []
sets_nil i [] = refl
sets_nil i (b ∷ bytes) = sets_nil (suc i) bytes

-- from the start as many bytes as have room are put, and the rest stays
sets_start : (before bytes : List ℕ) → sets before 0 bytes ≡ take (length before) bytes ++ drop (length bytes) before
sets_start before [] = rw take-nil
sets_start [] (b ∷ bytes) = sets_nil 0 (b ∷ bytes)
sets_start (x ∷ before) (b ∷ bytes) = sets_shift b before 0 bytes ∙ ap (λ (l : List ℕ). b ∷ l) (sets_start before bytes)

-- the buffers that planning is lent hold zeros, and the parameters alter nothing
pub lent_zeros : {level_bytes job_bytes mark_bytes : List ℕ} {parameters : Parameters} {left : Buffers} {answered : PlanAnswer} {plan prices shares : List ℕ}
    → plan ≡ zeros plan_room → prices ≡ zeros price_room → shares ≡ zeros share_room
    → parameters ≡ as_given level_bytes
    → PlanContract level_bytes job_bytes mark_bytes parameters (record { plan = plan; prices = prices; shares = shares }) left answered
    → PlanContract level_bytes job_bytes mark_bytes (as_given level_bytes) zero_buffers left answered
lent_zeros plan prices shares given planned = rw (plan, prices, shares, given) at planned

-- the text of a site that was read
text_read : (outcome : Outcome Site) (site : Site) → outcome ≡ answer site → (answered case : PlanAnswer) → answered ≡ case
    → (left : Buffers) → site_text site case left ≡ listing_text outcome answered left
unfolding listing_text
text_read outcome site read answered case is left = rw (read, is)

module _ {level_bytes job_bytes mark_bytes : List ℕ} {left : Buffers} {answered : PlanAnswer} (planned : PlanContract level_bytes job_bytes mark_bytes (as_given level_bytes) zero_buffers left answered) where
  -- what was written is a plan whose text can be put
  pub plan_listed : (intervals steps energy : ℕ) → answered ≡ Plan intervals steps energy
      → ListedPlan level_bytes job_bytes mark_bytes (as_given level_bytes) intervals steps energy left.prices left.shares
  plan_listed intervals steps energy is =
      let (site, read) = plan_read planned intervals steps energy is in
      record {
        site = site;
        site_read = read;
        plan = take (4 + 6 * steps) left.plan;
        planned = (planned.written site read intervals steps energy is).planned;
      }

  read_refused : (own : Refusal) → answered ≡ Err (Refused own)
      → read_site level_bytes job_bytes mark_bytes (as_given level_bytes) ≡ refused (number_of own.fault) own.place
  read_refused own is = reading_refused level_bytes job_bytes mark_bytes (as_given level_bytes) (number_of own.fault) own.place (rw is at planned.outcome)

  -- the site, or the refusal, is that of the tables as they are given
  given_refused : (own : Refusal) → answered ≡ Err (Refused own) → read_given_site level_bytes job_bytes mark_bytes ≡ refused (number_of own.fault) own.place
  given_refused own is = sym (as_given_alters_nothing level_bytes job_bytes mark_bytes) ∙ read_refused own is

  given_read : (site : Site) → read_site level_bytes job_bytes mark_bytes (as_given level_bytes) ≡ answer site → read_given_site level_bytes job_bytes mark_bytes ≡ answer site
  given_read site read = sym (as_given_alters_nothing level_bytes job_bytes mark_bytes) ∙ read

  module _ (before after : List ℕ) (whole : ℕ) where
    -- what was put is the text
    text_put : (text : List ℕ) → text ≡ listing_text (read_given_site level_bytes job_bytes mark_bytes) answered left
        → Appended before 0 text text_room after whole → ListingContract level_bytes job_bytes mark_bytes before after whole
    text_put text is put =
        record {
          text = text;
          listed = record {
            answered = answered;
            left = left;
            planned = planned;
            text_is = is;
            of_reading = λ own told. given_site_by level_bytes job_bytes mark_bytes (number_of own.fault) own.place (given_refused own told);
          };
          length_is = omega (arith, put.next_is);
          written = put.after_is ∙ sets_start before text;
          fits = put.few;
        }

    pub plan_put : (intervals steps energy : ℕ) → answered ≡ Plan intervals steps energy
        → ((site : Site) → read_site level_bytes job_bytes mark_bytes (as_given level_bytes) ≡ answer site → Appended before 0
        (text_of_plan site (prices_of (take (2 + 5 * intervals) left.prices)) (shares_in (length site.jobs) left.shares) steps energy) text_room after whole)
        → ListingContract level_bytes job_bytes mark_bytes before after whole
    unfolding site_text
    plan_put intervals steps energy is put =
        let (site, read) = plan_read planned intervals steps energy is in
        text_put _ (text_read _ site (given_read site read) answered _ is left) (put site read)

    pub overfull_put : (start end : ℕ) (spare : ℤ) → answered ≡ Overfull start end spare
        → Appended before 0 (overfull_line start end spare) text_room after whole → ListingContract level_bytes job_bytes mark_bytes before after whole
    unfolding site_text
    overfull_put start end spare is put =
        let (site, read) = site_planned planned (λ number place e. let z : ◌≡◌ {A = ℕ} 0 1 = cc e in omega (arith, z)) in
        text_put _ (text_read _ site (given_read site read) answered _ is left) put

    pub refused_put : (own : Refusal) → answered ≡ Err (Refused own)
        → Appended before 0 (refused_line (number_of own.fault) own.place) text_room after whole → ListingContract level_bytes job_bytes mark_bytes before after whole
    unfolding listing_text
    refused_put own is put = text_put _ (rw (given_refused own is)) put
