-- Entries in plain arrays.
use Rattle.std.specs.Prelude.{ℕ, cond, List, ltb}
use Rattle.model.specs.Entries.{list_of}

-- An array of `size` numbers: the first `count` are f 0, f 1, .. , the others 0.
unfoldable pub column_of : (size count : ℕ) → (ℕ → ℕ) → List ℕ
column_of size count f = list_of size (λ i. cond (ltb i count) (f i) 0)
