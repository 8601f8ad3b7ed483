-- Laws of lists by place: the list of a function's values, and the bytes of a list's elements, forth and back.
-- Assumes nothing.
use mathlib.Core.Path.{◌≡◌, refl, ap}
use mathlib.Core.List.{List, [], ◌∷◌, ◌++◌, append_assoc}
use Prim.Native.Nat.{ℕ, zero, suc, ◌+◌, ◌*◌, ◌<◌}
use native.Mathlib.Nat.{mul-zero, le_of_suc-le-suc}
use native.Mathlib.Omega.{arith}
use lib.ListN.{length, get_or, take, drop, length-append}
use lib.Seq.{drop_at, drop-drop, take-add}
use Rattle.model.specs.Entries.{list_of, encode_each}

module _ {A : Type 0} where
  pub length_list_of : (count : ℕ) (f : ℕ → A) → length (list_of count f) ≡ count
  unfolding list_of
  length_list_of zero f = refl
  length_list_of (suc count) f = ap suc (length_list_of count (λ i. f (suc i)))

  pub get_d_list_of : (count : ℕ) (f : ℕ → A) (i : ℕ) (d : A) → i < count → get_or (list_of count f) i d ≡ f i
  unfolding list_of
  get_d_list_of zero f i d h = absurd (omega arith)
  get_d_list_of (suc count) f zero d h = refl
  get_d_list_of (suc count) f (suc i) d h = get_d_list_of count (λ i. f (suc i)) i d (le_of_suc-le-suc h)

  -- a list is the list of its own elements
  pub list_of_get_d : (l : List A) (d : A) → list_of (length l) (λ i. get_or l i d) ≡ l
  unfolding list_of
  list_of_get_d [] d = refl
  list_of_get_d (x ∷ l) d = ap (λ (t : List A). x ∷ t) (list_of_get_d l d)

  pub list_of_cong : (count : ℕ) (f g : ℕ → A) → ((i : ℕ) → i < count → f i ≡ g i) → list_of count f ≡ list_of count g
  unfolding list_of
  list_of_cong zero f g h = refl
  list_of_cong (suc count) f g h =
      rw (h 0 (omega arith), list_of_cong count (λ i. f (suc i)) (λ i. g (suc i)) (λ i below. h (suc i) (omega arith)))

  -- each element has `size` bytes
  module _ (encode : A → List ℕ) (size : ℕ) (same : (x : A) → length (encode x) ≡ size) where
    pub length_encode_each : (l : List A) → length (encode_each encode l) ≡ size * length l
    unfolding encode_each
    length_encode_each [] = rw mul-zero
    length_encode_each (x ∷ l) = rw (length-append, same, length_encode_each l) (omega arith)

    -- the bytes of element i, and after them those of the elements that follow
    pub drop_encode_each : (l : List A) (rest : List ℕ) (i : ℕ) (d : A) → i < length l
        → drop (size * i) (encode_each encode l ++ rest) ≡ encode (get_or l i d) ++ (encode_each encode (drop (suc i) l) ++ rest)
    unfolding encode_each
    drop_encode_each [] rest i d h = absurd (omega arith)
    drop_encode_each (x ∷ l) rest zero d h = rw (mul-zero, append_assoc)
    drop_encode_each (x ∷ l) rest (suc i) d h =
        let past : size * suc i ≡ size + size * i = omega arith in
        rw (past, append_assoc, ← drop-drop, drop_at (encode x) (encode_each encode l ++ rest) size (same x))
        (drop_encode_each l rest i d (le_of_suc-le-suc h))

  -- where each element's bytes are those that stand at its place, the elements' bytes are the whole stretch
  pub encode_each_list_of : (encode : A → List ℕ) (size : ℕ) (bytes : List ℕ) (start count : ℕ) (f : ℕ → A)
      → ((i : ℕ) → i < count → encode (f i) ≡ take size (drop (start + size * i) bytes))
      → encode_each encode (list_of count f) ≡ take (size * count) (drop start bytes)
  unfolding encode_each list_of
  encode_each_list_of encode size bytes start zero f h = rw mul-zero
  encode_each_list_of encode size bytes start (suc count) f h =
      let here : start + size * 0 ≡ start = omega arith in
      let all : size * suc count ≡ size + size * count = omega arith in
      rw (h 0 (omega arith), here, all, take-add, drop-drop, encode_each_list_of encode size bytes (start + size) count (λ i. f (suc i)) later)
    where
      later : (i : ℕ) → i < count → encode (f (suc i)) ≡ take size (drop (start + size + size * i) bytes)
      later i below =
          let e : start + size + size * i ≡ start + size * suc i = omega arith in
          rw e (h (suc i) (omega arith))
