-- Laws of a table in arrays: its entries one by one.
-- Assumes nothing.
use mathlib.Core.Path.{◌≡◌, ◌∙◌}
use mathlib.Core.List.{List}
use Prim.Native.Nat.{ℕ, ◌<◌}
use lib.ListN.{length, get_or}
use Rattle.model.specs.Entries.{list_of}
use Rattle.model.proofs.Entries.{list_of_get_d, list_of_cong}

-- a list whose elements are those of another, one by one
pub same_elements : {A : Type 0} (l : List A) (default : A) (f : ℕ → A) → ((i : ℕ) → i < length l → f i ≡ get_or l i default)
    → list_of (length l) f ≡ l
same_elements l default f agree = list_of_cong (length l) f _ agree ∙ list_of_get_d l default
