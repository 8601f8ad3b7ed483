-- `listing::write_listing` meets its contract: an empty file of marks is listed as none, and any other as it is. Assumes nothing.
use mathlib.Core.Path.{◌≡◌, refl}
use mathlib.Core.List.{List, [], ◌∷◌}
use Prim.Native.Nat.{ℕ}
use native.Mathlib.Omega.{arith}
use lib.ListN.{length}
use Rattle.model.specs.Marks.{no_marks}
use Rattle.listing_text.specs.Listings.{marks_of_file}
use Rattle.listing_text.proofs.listing.write_listing.Goals as goal

none_in : (marks : List ℕ) → length marks ≡ 0 → marks_of_file marks ≡ no_marks
none_in [] e = refl
none_in (byte ∷ bytes) e = absurd (omega arith)

as-they-are : (marks : List ℕ) → (length marks ≡ 0 → ⊥) → marks_of_file marks ≡ marks
as-they-are [] some = absurd (some refl)
as-they-are (byte ∷ bytes) some = refl

pub returns-then-marks-eq0 : goal.returns-then-marks-eq0
returns-then-marks-eq0 c =
    rw (none_in c.args.marks.now (omega arith)) c.list_site.ensures

pub returns : goal.returns
returns c =
    rw (as-they-are c.args.marks.now (λ e. omega arith)) c.list_site-2.ensures
