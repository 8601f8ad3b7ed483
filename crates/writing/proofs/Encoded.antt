-- Laws of the bytes of a list's elements: of two lists one after the other, and of one more element of a list by place.
-- Assumes nothing.
use mathlib.Core.Path.{◌≡◌, refl, ap}
use mathlib.Core.List.{List, [], ◌∷◌, ◌++◌, append_assoc, append-nil}
use Prim.Native.Nat.{ℕ, zero, suc, ◌+◌}
use native.Mathlib.Numerals.{add-one}
use Rattle.model.specs.Entries.{list_of, encode_each}

module _ {A : Type 0} where
  pub encode_each_append : (encode : A → List ℕ) (a b : List A) → encode_each encode (a ++ b) ≡ encode_each encode a ++ encode_each encode b
  unfolding encode_each
  encode_each_append encode [] b = refl
  encode_each_append encode (x ∷ a) b = rw (append_assoc, encode_each_append encode a b)

  list_of_last : (n : ℕ) (f : ℕ → A) → list_of (suc n) f ≡ list_of n f ++ (f n ∷ [])
  unfolding list_of
  list_of_last zero f = refl
  list_of_last (suc n) f = ap (λ (t : List A). f 0 ∷ t) (list_of_last n (λ i. f (suc i)))

  pub encode_each_next : (encode : A → List ℕ) (n : ℕ) (f : ℕ → A)
      → encode_each encode (list_of (n + 1) f) ≡ encode_each encode (list_of n f) ++ encode (f n)
  unfolding encode_each
  encode_each_next encode n f = rw (add-one, list_of_last, encode_each_append, append-nil)
