-- `listing::list_site` meets its contract: each case of planning's answer has its text (proofs/ListingText.antt).
-- Assumes nothing.
use mathlib.Core.Path.{◌∙◌, ap}
use mir.Syntax.{w64}
use mir.Val.{SFits}
use mir.Facts.{to_z-of_z}
use borrow.Author.Rules.{rules}
use Rattle.std.specs.Prelude.{Err}
use Rattle.listing_text.proofs.ListingText.{lent_zeros, plan_listed, plan_put, overfull_put, refused_put}
use Rattle.listing_text.proofs.listing.list_site.Goals as goal

-- planning is lent zeros
pub put_plan-requires : goal.put_plan-requires
put_plan-requires c =
    let planned =
    lent_zeros c.plan_buffer-bytes.ensures c.price_buffer-prices.ensures c.share_buffer-shares.ensures c.as_given-parameters.ensures c.plan-answer.ensures in
    rw c.as_given-parameters.ensures (plan_listed planned _ _ _ c.in-Ok.is)

pub returns-in-Ok : goal.returns-in-Ok
returns-in-Ok c =
    let planned =
    lent_zeros c.plan_buffer-bytes.ensures c.price_buffer-prices.ensures c.share_buffer-shares.ensures c.as_given-parameters.ensures c.plan-answer.ensures in
    plan_put planned _ _ _ _ _ _ c.in-Ok.is (rw c.as_given-parameters.ensures at c.put_plan.ensures)

pub returns-in-Err-Overfull : goal.returns-in-Err-Overfull
returns-in-Err-Overfull c =
    let planned =
    lent_zeros c.plan_buffer-bytes.ensures c.price_buffer-prices.ensures c.share_buffer-shares.ensures c.as_given-parameters.ensures c.plan-answer.ensures in
    let fits : SFits w64 c.in-Err-Overfull.spare = search rules in
    let window = rw c.in-Err-Overfull.is at c.in-Err-Overfull.field-0-is in
    overfull_put planned _ _ _ _ _ _ (c.in-Err-Overfull.is ∙ ap Err window) (rw (to_z-of_z fits) at c.put_overfull.ensures)

pub returns-in-Err-Refused : goal.returns-in-Err-Refused
returns-in-Err-Refused c =
    let planned =
    lent_zeros c.plan_buffer-bytes.ensures c.price_buffer-prices.ensures c.share_buffer-shares.ensures c.as_given-parameters.ensures c.plan-answer.ensures in
    let refusal = rw c.in-Err-Refused.is at c.in-Err-Refused.field-0-is in
    refused_put planned _ _ _ _ (c.in-Err-Refused.is ∙ ap Err refusal) (rw c.number.ensures at c.put_refused.ensures)
