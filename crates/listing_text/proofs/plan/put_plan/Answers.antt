-- `plan::put_plan` meets its contract. The site is read and stands in the arrays, and what is put is the plan's text
-- (proofs/ListedPlans.antt). Assumes nothing.
use native.Mathlib.Omega.{arith}
use Rattle.listing_lines.proofs.AppendedText.{appended_as}
use Rattle.listing_text.proofs.ListedPlans.{returned_site, shown-plan, shown_text}
use Rattle.listing_text.proofs.plan.put_plan.Goals as goal

pub unwrap-site-requires : goal.unwrap-site-requires
unwrap-site-requires c = returned_site _ _ c.requires.site_read _ _ _ _ _ c.read_site.ensures

pub put_lines-requires : goal.put_lines-requires
put_lines-requires c =
    let listed = c.requires in
    shown-plan listed listed.site listed.site_read (rw (c.unwrap-site.ensures, listed.site_read) at c.read_site.ensures)

pub returns : goal.returns
returns c =
    let listed = c.requires in
    λ site is. appended_as _ _ c.put_lines.ensures _ _ (shown_text listed site is (rw (c.unwrap-site.ensures, is) at c.read_site.ensures)) (omega arith)
