-- Laws of numbers that are written one after another, and of a list by its places.
-- Assumes nothing.
use mathlib.Core.Path.{◌≡◌, refl, sym, ◌∙◌, ap}
use mathlib.Core.List.{List}
use Prim.Native.Nat.{ℕ, ◌+◌, ◌*◌, ◌<◌, ◌≤◌}
use native.Mathlib.Omega.{arith}
use lib.ListN.{length, get_or}
use lib.Seq.{sets, length-sets}
use Rattle.model.specs.Entries.{list_of, encode_each}
use Rattle.model.proofs.Entries.{length_list_of, list_of_get_d, list_of_cong, length_encode_each}
use Rattle.writing.proofs.Stores.{sets_after}
use Rattle.writing.proofs.Encoded.{encode_each_next}

-- numbers that are given one by one are the list of them
pub listed_by_place : (l : List ℕ) (count : ℕ) (f : ℕ → ℕ) → length l ≡ count → ((i : ℕ) → i < count → get_or l i 0 ≡ f i) → l ≡ list_of count f
listed_by_place l count f long agree =
    sym (list_of_get_d l 0) ∙ (ap (λ n. list_of n (λ i. get_or l i 0)) long ∙ list_of_cong count (λ i. get_or l i 0) f agree)

-- numbers that are written one after another, each in `size` bytes
module _ (encode : ℕ → List ℕ) (size : ℕ) (same : (n : ℕ) → length (encode n) ≡ size) (start : ℕ) (f : ℕ → ℕ) (before : List ℕ) where
  abbrev NumbersPut : (i : ℕ) → List ℕ → Type 0
  NumbersPut i out = out ≡ sets before start (encode_each encode (list_of i f))

  pub numbers_none : NumbersPut 0 before
  unfolding encode_each list_of
  numbers_none = refl

  pub length_numbers : (i : ℕ) (out : List ℕ) → NumbersPut i out → length out ≡ length before
  length_numbers i out put = rw (put, length-sets)

  pub numbers_next : (i : ℕ) (out after : List ℕ) → NumbersPut i out → after ≡ sets out (start + size * i) (encode (f i)) → NumbersPut (i + 1) after
  numbers_next i out after put written =
      let place : start + size * i ≡ start + length (encode_each encode (list_of i f)) = rw (length_encode_each encode size same, length_list_of) in
      rw (written, put, encode_each_next) (sets_after before start (start + size * i) (encode_each encode (list_of i f)) (encode (f i)) place)

  pub numbers_whole : (i count : ℕ) (out : List ℕ) → NumbersPut i out → i ≤ count → count ≤ i → NumbersPut count out
  numbers_whole i count out put low high = let e : count ≡ i = omega arith in rw e put
