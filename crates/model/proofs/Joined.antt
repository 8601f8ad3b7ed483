-- Laws of lists that are joined: one more list, two parts, how long they are together, what holds of every element, of one element, and
-- of any two, the place of each element, and sums over the elements; and of a list of one element or none.
-- Assumes nothing.
use mathlib.Core.Path.{◌≡◌, refl, sym, ◌∙◌, ap}
use mathlib.Core.Bool.{Bool, true, false, cond}
use mathlib.Core.Logic.{◌⊎◌, inl, inr}
use mathlib.Core.List.{List, [], ◌∷◌, ◌++◌, append-nil, append_assoc, map, map-append}
use Prim.Native.Nat.{ℕ, zero, suc, ◌+◌, ◌-◌, ◌<◌, ◌≤◌}
use native.Mathlib.Nat.{eq-or-lt_of_le, le_of_suc-le-suc}
use native.Mathlib.Omega.{arith}
use native.Mathlib.Numerals.{add-one}
use lib.ListN.{length, get_or, length-append, get_or-append}
use lib.Seq.{get_or-append-add}
use Rattle.model.specs.Sum.{sum}
use Rattle.model.proofs.Numbers.{lt_or_le, true≢false}
use Rattle.model.proofs.Sum.{sum_cong, sum_split, sum_longer}
use Rattle.model.specs.Entries.{joined}

module _ {A : Type 0} where
  pub joined_next : (n : ℕ) (f : ℕ → List A) → joined (n + 1) f ≡ joined n f ++ f n
  unfolding joined
  joined_next n f = rw add-one

  pub joined_cong : (n : ℕ) (f g : ℕ → List A) → ((i : ℕ) → i < n → f i ≡ g i) → joined n f ≡ joined n g
  unfolding joined
  joined_cong zero f g same = refl
  joined_cong (suc n) f g same = rw (joined_cong n f g (λ i below. same i (omega arith)), same n (omega arith))

  pub length_joined : (n : ℕ) (f : ℕ → List A) → length (joined n f) ≡ sum n (λ i. length (f i))
  unfolding joined sum
  length_joined zero f = refl
  length_joined (suc n) f = rw (length-append, length_joined n f)

  pub joined_longer : (f : ℕ → List A) (k n : ℕ) → k ≤ n → length (joined k f) ≤ length (joined n f)
  joined_longer f k n h = rw (length_joined k f, length_joined n f) (sum_longer (λ i. length (f i)) h)

  -- lists of no element at the end
  pub joined_shorter : (f : ℕ → List A) (k n : ℕ) → k ≤ n → ((i : ℕ) → k ≤ i → i < n → f i ≡ []) → joined n f ≡ joined k f
  unfolding joined
  joined_shorter f k zero h none = let e : k ≡ 0 = omega arith in rw e
  joined_shorter f k (suc n) h none = go (lt_or_le n k) (λ low. joined_shorter f k n low (λ i past below. none i past (omega arith)))
    where
      go : (n < k) ⊎ (k ≤ n) → (k ≤ n → joined n f ≡ joined k f) → joined (suc n) f ≡ joined k f
      go (inl all) same = let e : k ≡ suc n = omega arith in rw e
      go (inr low) same = rw (none n low (omega arith), append-nil (joined n f)) (same low)

  -- the lists from n on
  pub joined_split : (n m : ℕ) (f : ℕ → List A) → joined (n + m) f ≡ joined n f ++ joined m (λ i. f (n + i))
  unfolding joined
  joined_split n zero f = let e : n + 0 ≡ n = omega arith in rw (e, append-nil)
  joined_split n (suc m) f =
      let e : n + suc m ≡ suc (n + m) = omega arith in
      rw (e, joined_split n m f, append_assoc (joined n f) (joined m (λ i. f (n + i))) (f (n + m)))

  module _ (d : A) where
    -- past the first of two lists
    pub get_d_past : (a b : List A) (i : ℕ) → length a ≤ i → get_or (a ++ b) i d ≡ get_or b (i - length a) d
    get_d_past a b i past =
        let e : i ≡ length a + (i - length a) = omega arith in
        ap (λ (k : ℕ). get_or (a ++ b) k d) e ∙ get_or-append-add a b (i - length a) d

    -- a fact of each element
    abbrev pub Each : (A → Type 0) → List A → Type 0
    Each fact l = (i : ℕ) → i < length l → fact (get_or l i d)

    pub each_append : (fact : A → Type 0) (a b : List A) → Each fact a → Each fact b → Each fact (a ++ b)
    each_append fact a b first second i below = go (lt_or_le i (length a))
      where
        go : (i < length a) ⊎ (length a ≤ i) → fact (get_or (a ++ b) i d)
        go (inl inside) = rw (get_or-append a b d i inside) (first i inside)
        go (inr past) = rw (get_d_past a b i past) (second (i - length a) (omega (arith, length-append a b)))

    pub each_joined : (fact : A → Type 0) (n : ℕ) (f : ℕ → List A) → ((i : ℕ) → i < n → Each fact (f i)) → Each fact (joined n f)
    unfolding joined
    each_joined fact zero f each = λ i below. absurd (omega arith)
    each_joined fact (suc n) f each =
        each_append fact (joined n f) (f n) (each_joined fact n f (λ i below. each i (omega arith))) (each n (omega arith))

    -- a relation of each element to every later one
    abbrev pub Ordered : (A → A → Type 0) → List A → Type 0
    Ordered before l = (i k : ℕ) → i < k → k < length l → before (get_or l i d) (get_or l k d)

    ordered_append : (before : A → A → Type 0) (a b : List A) → Ordered before a → Ordered before b → Each (λ x. Each (before x) b) a
        → Ordered before (a ++ b)
    ordered_append before a b first second across i k less below = go (lt_or_le i (length a)) (lt_or_le k (length a))
      where
        go : (i < length a) ⊎ (length a ≤ i) → (k < length a) ⊎ (length a ≤ k) → before (get_or (a ++ b) i d) (get_or (a ++ b) k d)
        go (inl inside) (inl also) = rw (get_or-append a b d i inside, get_or-append a b d k also) (first i k less also)
        go (inl inside) (inr past) =
            rw (get_or-append a b d i inside, get_d_past a b k past)
            (across i inside (k - length a) (omega (arith, length-append a b)))
        go (inr past) (inl inside) = absurd (omega arith)
        go (inr past) (inr also) =
            rw (get_d_past a b i past, get_d_past a b k also)
            (second (i - length a) (k - length a) (omega arith) (omega (arith, length-append a b)))

    pub ordered_joined : (before : A → A → Type 0) (n : ℕ) (f : ℕ → List A) → ((i : ℕ) → i < n → Ordered before (f i))
        → ((i k : ℕ) → i < k → k < n → Each (λ x. Each (before x) (f k)) (f i)) → Ordered before (joined n f)
    unfolding joined
    ordered_joined before zero f each across = λ i k less below. absurd (omega arith)
    ordered_joined before (suc n) f each across =
        ordered_append before (joined n f) (f n)
        (ordered_joined before n f (λ i below. each i (omega arith)) (λ i k less below. across i k less (omega arith)))
        (each n (omega arith))
        (each_joined (λ x. Each (before x) (f n)) n f (λ i below. across i n below (omega arith)))

    -- a fact of one element
    abbrev pub Any : (A → Type 0) → List A → Type 0
    Any fact l = (i : ℕ) × (i < length l) × fact (get_or l i d)

    any_first : (fact : A → Type 0) (a b : List A) → Any fact a → Any fact (a ++ b)
    any_first fact a b (i, below, here) = (i, omega (arith, length-append a b), rw (get_or-append a b d i below) here)

    any_second : (fact : A → Type 0) (a b : List A) → Any fact b → Any fact (a ++ b)
    any_second fact a b (i, below, here) = (length a + i, omega (arith, length-append a b), rw (get_or-append-add a b i d) here)

    pub any_joined : (fact : A → Type 0) (n : ℕ) (f : ℕ → List A) (i : ℕ) → i < n → Any fact (f i) → Any fact (joined n f)
    unfolding joined
    any_joined fact zero f i below here = absurd (omega arith)
    any_joined fact (suc n) f i below here = go (eq-or-lt_of_le (le_of_suc-le-suc below)) (λ inside. any_joined fact n f i inside here)
      where
        go : (i ≡ n) ⊎ (i < n) → (i < n → Any fact (joined n f)) → Any fact (joined n f ++ f n)
        go (inl last) earlier = any_second fact (joined n f) (f n) (rw last at here)
        go (inr inside) earlier = any_first fact (joined n f) (f n) (earlier inside)

    -- element k of list i comes after the elements of the lists before it
    pub joined_inside : (n : ℕ) (f : ℕ → List A) (i k : ℕ) → i < n → k < length (f i) → length (joined i f) + k < length (joined n f)
    joined_inside n f i k below inside =
        omega (arith, rw (joined_next i f, length-append) at (joined_longer f (i + 1) n (omega arith)))

    pub joined_place : (n : ℕ) (f : ℕ → List A) (i k : ℕ) → i < n → k < length (f i)
        → get_or (joined n f) (length (joined i f) + k) d ≡ get_or (f i) k d
    unfolding joined
    joined_place zero f i k below inside = absurd (omega arith)
    joined_place (suc n) f i k below inside =
        go (eq-or-lt_of_le (le_of_suc-le-suc below)) (λ earlier. joined_place n f i k earlier inside)
      where
        go : (i ≡ n) ⊎ (i < n) → (i < n → get_or (joined n f) (length (joined i f) + k) d ≡ get_or (f i) k d)
            → get_or (joined n f ++ f n) (length (joined i f) + k) d ≡ get_or (f i) k d
        go (inl last) before = rw last (get_or-append-add (joined n f) (f n) k d)
        go (inr earlier) before =
            get_or-append (joined n f) (f n) d (length (joined i f) + k) (joined_inside n f i k earlier inside) ∙ before earlier

    -- an element where a test passes, and none where not
    pub each_where : (fact : A → Type 0) (test : Bool) (x : A) → (test ≡ true → fact x) → Each fact (cond test (x ∷ []) [])
    each_where fact true x holds zero below = holds refl
    each_where fact true x holds (suc i) below = absurd (omega arith)
    each_where fact false x holds i below = absurd (omega arith)

    pub ordered_where : (before : A → A → Type 0) (test : Bool) (x : A) → Ordered before (cond test (x ∷ []) [])
    ordered_where before true x i k less below = absurd (omega arith)
    ordered_where before false x i k less below = absurd (omega arith)

    pub any_where : (fact : A → Type 0) (test : Bool) (x : A) → test ≡ true → fact x → Any fact (cond test (x ∷ []) [])
    any_where fact true x e here = (0, omega arith, here)
    any_where fact false x e here = absurd (true≢false (sym e))

    -- the sum of a number that each element has
    abbrev pub sum_over : (A → ℕ) → List A → ℕ
    sum_over number l = sum (length l) (λ i. number (get_or l i d))

    sum_append : (number : A → ℕ) (a b : List A) → sum_over number (a ++ b) ≡ sum_over number a + sum_over number b
    sum_append number a b =
        let first : sum (length a) (λ i. number (get_or (a ++ b) i d)) ≡ sum_over number a =
        sum_cong (length a) (λ i inside. rw (get_or-append a b d i inside)) in
        let second : sum (length b) (λ i. number (get_or (a ++ b) (length a + i) d)) ≡ sum_over number b =
        sum_cong (length b) (λ i inside. rw (get_or-append-add a b i d)) in
        rw length-append (omega (arith, sum_split (length a) (length b) (λ i. number (get_or (a ++ b) i d))))

    pub sum_joined : (number : A → ℕ) (n : ℕ) (f : ℕ → List A) → sum_over number (joined n f) ≡ sum n (λ i. sum_over number (f i))
    unfolding joined sum
    sum_joined number zero f = refl
    sum_joined number (suc n) f = omega (arith, sum_append number (joined n f) (f n), sum_joined number n f)

-- the elements put through a function
module _ {A B : Type 0} (g : A → B) where
  pub map_joined : (n : ℕ) (f : ℕ → List A) → map g (joined n f) ≡ joined n (λ i. map g (f i))
  unfolding joined
  map_joined zero f = refl
  map_joined (suc n) f = rw (map-append g (joined n f) (f n), map_joined n f)

  pub get_d_map : (l : List A) (i : ℕ) (d : A) (e : B) → i < length l → get_or (map g l) i e ≡ g (get_or l i d)
  get_d_map [] i d e below = absurd (omega arith)
  get_d_map (x ∷ l) zero d e below = refl
  get_d_map (x ∷ l) (suc i) d e below = get_d_map l i d e (le_of_suc-le-suc below)
