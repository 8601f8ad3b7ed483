-- Lists by place: the list of a function's first values, the bytes of a list's elements one after another, and lists joined.
use Rattle.std.specs.Prelude.{ℕ, zero, suc, List, [], ◌∷◌, ◌++◌}

module _ {A : Type 0} where
  -- f 0, f 1, .. , f (count - 1)
  unfoldable pub list_of : (count : ℕ) → (ℕ → A) → List A
  list_of zero f = []
  list_of (suc count) f = f 0 ∷ list_of count (λ i. f (suc i))

  -- the bytes of each element, one element after another
  unfoldable pub encode_each : (A → List ℕ) → List A → List ℕ
  encode_each encode [] = []
  encode_each encode (x ∷ xs) = encode x ++ encode_each encode xs

  -- f 0 ++ f 1 ++ .. ++ f (count - 1)
  unfoldable pub joined : (count : ℕ) → (ℕ → List A) → List A
  joined zero f = []
  joined (suc count) f = joined count f ++ f count
