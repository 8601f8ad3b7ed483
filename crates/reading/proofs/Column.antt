-- Laws of entries in plain arrays: an array is filled from its front, one number a turn.
-- Assumes nothing.
use mathlib.Core.Path.{◌≡◌, sym, ◌∙◌, ap}
use mathlib.Core.Bool.{cond}
use mathlib.Core.Logic.{◌⊎◌, inl, inr}
use mathlib.Core.List.{List, ◌++◌}
use Prim.Native.Nat.{ℕ, ◌+◌, ◌-◌, ◌<◌, ◌≤◌}
use native.Mathlib.Omega.{arith}
use native.Mathlib.Decide.{ℕ_discrete}
use lib.Dec.{ltb}
use lib.ListN.{length, get_or, set, replicate, length-append, length-set, length-replicate, get_or-replicate, get_or-append}
use lib.Seq.{ext_get_or, get_or-append-add, get_or-set_same, get_or-set_other}
use borrow.Author.Tests.{lt-ltb, le-ltb}
use Rattle.model.specs.Entries.{list_of}
use Rattle.model.proofs.Numbers.{lt_or_le}
use Rattle.model.proofs.Entries.{length_list_of, get_d_list_of, list_of_cong}
use Rattle.reading.specs.Column.{column_of}

module _ (size : ℕ) (f : ℕ → ℕ) where
  pub length_column : (count : ℕ) → length (column_of size count f) ≡ size
  unfolding column_of
  length_column count = length_list_of size _

  pub column_at : (count i : ℕ) → i < size → i < count → get_or (column_of size count f) i 0 ≡ f i
  unfolding column_of
  column_at count i inside below = rw (get_d_list_of {A = ℕ} size _ i 0 inside, lt-ltb i count below)

  pub column_past : (count i : ℕ) → i < size → count ≤ i → get_or (column_of size count f) i 0 ≡ 0
  unfolding column_of
  column_past count i inside past = rw (get_d_list_of {A = ℕ} size _ i 0 inside, le-ltb i count past)

  -- before the first turn the array has zeros alone
  pub column_none : replicate size 0 ≡ column_of size 0 f
  column_none =
      ext_get_or 0 _ _ (length-replicate size 0 ∙ sym (length_column 0))
      (λ i below. let inside : i < size = rw length-replicate at below in
      get_or-replicate size i 0 0 inside ∙ sym (column_past 0 i inside (omega arith)))

  -- one number more
  pub column_more : (numbers : List ℕ) (i value : ℕ) → i < size → numbers ≡ column_of size i f → value ≡ f i
      → set numbers i value ≡ column_of size (i + 1) f
  column_more numbers i value inside filled is-next =
      rw (filled, is-next)
      (ext_get_or 0 _ _ (length-set (column_of size i f) i (f i) ∙ (length_column i ∙ sym (length_column (i + 1))))
      (λ k below. at k (omega (arith, length-set (column_of size i f) i (f i), length_column i)) (ℕ_discrete k i)))
    where
      at : (k : ℕ) → k < size → Dec (k ≡ i) → get_or (set (column_of size i f) i (f i)) k 0 ≡ get_or (column_of size (i + 1) f) k 0
      at k within (yes same) =
          rw same
          (get_or-set_same (column_of size i f) i (f i) 0 (omega (arith, length_column i)) ∙ sym (column_at (i + 1) i inside (omega arith)))
      at k within (no other) =
          get_or-set_other (column_of size i f) i k (f i) 0 other ∙ kept (lt_or_le k i)
        where
          kept : (k < i) ⊎ (i ≤ k) → get_or (column_of size i f) k 0 ≡ get_or (column_of size (i + 1) f) k 0
          kept (inl before) = column_at i k within before ∙ sym (column_at (i + 1) k within (omega arith))
          kept (inr past) = column_past i k within past ∙ sym (column_past (i + 1) k within (omega arith))

  -- after the last turn the array has all numbers
  pub column_whole : (numbers : List ℕ) (i count : ℕ) → i ≤ count → count ≤ i → numbers ≡ column_of size i f → numbers ≡ column_of size count f
  column_whole numbers i count low high filled = let e : count ≡ i = omega arith in rw e filled

  -- numbers that are filled one by one, with zeros after them, are the column
  pub column_filled : (numbers : List ℕ) (count : ℕ) → length numbers ≡ size → ((i : ℕ) → i < count → get_or numbers i 0 ≡ f i)
      → ((i : ℕ) → count ≤ i → get_or numbers i 0 ≡ 0) → numbers ≡ column_of size count f
  column_filled numbers count long filled zeros =
      ext_get_or 0 _ _ (long ∙ sym (length_column count)) (λ i below. at i (omega arith) (lt_or_le i count))
    where
      at : (i : ℕ) → i < size → (i < count) ⊎ (count ≤ i) → get_or numbers i 0 ≡ get_or (column_of size count f) i 0
      at i inside (inl below) = filled i below ∙ sym (column_at count i inside below)
      at i inside (inr past) = zeros i past ∙ sym (column_past count i inside past)

-- one number in place of another
pub column_changed : (size count : ℕ) (f g : ℕ → ℕ) (i value : ℕ) → i < count → count ≤ size → value ≡ g i
    → ((k : ℕ) → k < count → (k ≡ i → ⊥) → f k ≡ g k) → set (column_of size count f) i value ≡ column_of size count g
column_changed size count f g i value inside few is-next others =
    ext_get_or 0 _ _ (length-set (column_of size count f) i value ∙ (length_column size f count ∙ sym (length_column size g count)))
    (λ k below. at k (omega (arith, length-set (column_of size count f) i value, length_column size f count)) (ℕ_discrete k i))
  where
    at : (k : ℕ) → k < size → Dec (k ≡ i) → get_or (set (column_of size count f) i value) k 0 ≡ get_or (column_of size count g) k 0
    at k within (yes same) =
        rw same
        (get_or-set_same (column_of size count f) i value 0 (omega (arith, length_column size f count)) ∙ is-next
        ∙ sym (column_at size g count i (omega arith) inside))
    at k within (no other) =
        get_or-set_other (column_of size count f) i k value 0 other ∙ kept (lt_or_le k count)
      where
        kept : (k < count) ⊎ (count ≤ k) → get_or (column_of size count f) k 0 ≡ get_or (column_of size count g) k 0
        kept (inl below) = column_at size f count k within below ∙ others k below other ∙ sym (column_at size g count k within below)
        kept (inr past) = column_past size f count k within past ∙ sym (column_past size g count k within past)

-- arrays that agree on the first numbers are equal
pub column_cong : (size count : ℕ) (f g : ℕ → ℕ) → ((i : ℕ) → i < count → f i ≡ g i) → column_of size count f ≡ column_of size count g
unfolding column_of
column_cong size count f g agree =
    list_of_cong size _ _ (λ i inside. chosen i (lt_or_le i count))
  where
    chosen : (i : ℕ) → (i < count) ⊎ (count ≤ i) → cond (ltb i count) (f i) 0 ≡ cond (ltb i count) (g i) 0
    chosen i (inl below) = rw (lt-ltb i count below) (agree i below)
    chosen i (inr past) = rw (le-ltb i count past)

-- an array filled with a field of each entry is the column of that field over the list of entries
pub column_of_entries : {A : Type 0} (size count : ℕ) (entry : ℕ → A) (default : A) (field : A → ℕ) (number : ℕ → ℕ)
    → ((i : ℕ) → number i ≡ field (entry i))
    → column_of size count number ≡ column_of size (length (list_of count entry)) (λ i. field (get_or (list_of count entry) i default))
column_of_entries size count entry default field number agree =
    rw (length_list_of count entry)
    (column_cong size count _ _ (λ i below. agree i ∙ ap field (sym (get_d_list_of count entry i default below))))

-- an array that holds a list is the list, and zeros after it
pub column_padded : (size : ℕ) (l : List ℕ) → length l ≤ size → column_of size (length l) (λ i. get_or l i 0) ≡ l ++ replicate (size - length l) 0
column_padded size l fits =
    ext_get_or 0 _ _ (length_column size _ (length l) ∙ sym (simp (length-append, length-replicate) (omega arith)))
    (λ i below. let inside : i < size = rw (length_column size (λ i. get_or l i 0) (length l)) at below in at i inside (lt_or_le i (length l)))
  where
    at : (i : ℕ) → i < size → (i < length l) ⊎ (length l ≤ i)
        → get_or (column_of size (length l) (λ i. get_or l i 0)) i 0 ≡ get_or (l ++ replicate (size - length l) 0) i 0
    at i inside (inl below) = column_at size _ (length l) i inside below ∙ sym (get_or-append l _ 0 i below)
    at i inside (inr past) =
        let place : i ≡ length l + (i - length l) = omega arith in
        let zeros : i - length l < size - length l = omega arith in
        column_past size _ (length l) i inside past
        ∙ sym (rw (place, get_or-append-add l (replicate (size - length l) 0) (i - length l) 0) (get_or-replicate (size - length l) (i - length l) 0 0 zeros))
