-- Laws of finite sums and products.
-- Assumes nothing.
use mathlib.Core.Path.{◌≡◌, refl, sym, ◌∙◌, ap}
use mathlib.Core.Bool.{Bool, cond}
use mathlib.Core.Logic.{◌⊎◌, inl, inr}
use Prim.Native.Nat.{ℕ, zero, suc, ◌+◌, ◌-◌, ◌*◌, ◌<◌, ◌≤◌}
use native.Mathlib.Nat.{eq-zero-or-pos, eq-or-lt_of_le, le_of_suc-le-suc, mul-pos}
use native.Mathlib.Numerals.{add-one}
use native.Mathlib.Omega.{arith}
use lib.Dec.{eqb}
use borrow.Author.Tests.{eq-eqb, ne_eqb}
use Rattle.model.specs.Sum.{sum, product, only_if}

pub sum_cong : (n : ℕ) {f g : ℕ → ℕ} → ((i : ℕ) → i < n → f i ≡ g i) → sum n f ≡ sum n g
unfolding sum
sum_cong zero same = refl
sum_cong (suc n) same = omega (arith, sum_cong n (λ i below. same i (omega arith)), same n (omega arith))

pub sum_mono : (n : ℕ) {f g : ℕ → ℕ} → ((i : ℕ) → i < n → f i ≤ g i) → sum n f ≤ sum n g
unfolding sum
sum_mono zero below = omega arith
sum_mono (suc n) below = omega (arith, sum_mono n (λ i h. below i (omega arith)), below n (omega arith))

-- one term strictly below makes the sum strictly below
pub sum_strict : (n : ℕ) {f g : ℕ → ℕ} (k : ℕ) → k < n → ((i : ℕ) → i < n → f i ≤ g i) → f k < g k → sum n f < sum n g
unfolding sum
sum_strict zero k h below less = absurd (omega arith)
sum_strict (suc n) {f} {g} k h below less = go (eq-or-lt_of_le (le_of_suc-le-suc h)) (λ inside. sum_strict n k inside (λ i l. below i (omega arith)) less)
  where
    go : (k ≡ n) ⊎ (k < n) → (k < n → sum n f < sum n g) → sum n f + f n < sum n g + g n
    go (inl last) step =
        let here : f n < g n = rw last at less in
        omega (arith, sum_mono n {f = f} {g = g} (λ i l. below i (omega arith)))
    go (inr inside) step = omega (arith, step inside, below n (omega arith))

pub sum_zero : (n : ℕ) {f : ℕ → ℕ} → ((i : ℕ) → i < n → f i ≡ 0) → sum n f ≡ 0
unfolding sum
sum_zero zero none = refl
sum_zero (suc n) none = omega (arith, sum_zero n (λ i below. none i (omega arith)), none n (omega arith))

pub sum_add : (n : ℕ) (f g : ℕ → ℕ) → sum n (λ i. f i + g i) ≡ sum n f + sum n g
unfolding sum
sum_add zero f g = refl
sum_add (suc n) f g = omega (arith, sum_add n f g)

pub sum_mul_left : (n c : ℕ) (f : ℕ → ℕ) → sum n (λ i. c * f i) ≡ c * sum n f
unfolding sum
sum_mul_left zero c f = omega arith
sum_mul_left (suc n) c f = omega (arith, sum_mul_left n c f)

pub sum_mul_right : (n c : ℕ) (f : ℕ → ℕ) → sum n (λ i. f i * c) ≡ sum n f * c
unfolding sum
sum_mul_right zero c f = omega arith
sum_mul_right (suc n) c f = omega (arith, sum_mul_right n c f)

pub sum_const : (n c : ℕ) → sum n (λ i. c) ≡ n * c
unfolding sum
sum_const zero c = omega arith
sum_const (suc n) c = omega (arith, sum_const n c)

pub sum_swap : (n m : ℕ) (f : ℕ → ℕ → ℕ) → sum n (λ i. sum m (f i)) ≡ sum m (λ j. sum n (λ i. f i j))
unfolding sum
sum_swap zero m f = sym (sum_zero m (λ j below. refl))
sum_swap (suc n) m f = omega (arith, sum_swap n m f, sum_add m (λ j. sum n (λ i. f i j)) (f n))

-- the terms from n on
pub sum_split : (n m : ℕ) (f : ℕ → ℕ) → sum (n + m) f ≡ sum n f + sum m (λ i. f (n + i))
unfolding sum
sum_split n zero f = let e : n + 0 ≡ n = omega arith in rw e (omega arith)
sum_split n (suc m) f = let e : n + suc m ≡ suc (n + m) = omega arith in rw e (omega (arith, sum_split n m f))

-- more terms add up to more
pub sum_longer : {k n : ℕ} (f : ℕ → ℕ) → k ≤ n → sum k f ≤ sum n f
sum_longer {k} {n} f h =
    let e : n ≡ k + (n - k) = omega arith in
    rw e (omega (arith, sum_split k (n - k) f))

-- up to a positive term a sum is smaller than past it
pub sum_before : (k n : ℕ) (f : ℕ → ℕ) → k < n → 0 < f k → sum k f < sum n f
unfolding sum
sum_before k n f below positive = omega (arith, sum_longer f below)

-- terms of 0 at the end
pub sum_shorter : (k n : ℕ) (f : ℕ → ℕ) → k ≤ n → ((i : ℕ) → k ≤ i → i < n → f i ≡ 0) → sum n f ≡ sum k f
sum_shorter k n f h none =
    let e : n ≡ k + (n - k) = omega arith in
    let rest : sum (n - k) (λ i. f (k + i)) ≡ 0 = sum_zero (n - k) (λ i below. none (k + i) (omega arith) (omega arith)) in
    rw e (omega (arith, sum_split k (n - k) f))

-- a sum of differences is the difference of its ends
pub sum_telescopes : (n : ℕ) (level step : ℕ → ℕ) → ((i : ℕ) → i < n → level i + step i ≡ level (suc i)) → level 0 + sum n step ≡ level n
unfolding sum
sum_telescopes zero level step next = omega arith
sum_telescopes (suc n) level step next =
    omega (arith, sum_telescopes n level step (λ i below. next i (omega arith)), next n (omega arith))

-- a term is at most the sum
pub sum_term : (n : ℕ) (f : ℕ → ℕ) (k : ℕ) → k < n → f k ≤ sum n f
unfolding sum
sum_term zero f k below = absurd (omega arith)
sum_term (suc n) f k below = go (eq-or-lt_of_le (le_of_suc-le-suc below)) (sum_term n f k)
  where
    go : (k ≡ n) ⊎ (k < n) → (k < n → f k ≤ sum n f) → f k ≤ sum n f + f n
    go (inl last) step = rw last (omega arith)
    go (inr inside) step = omega (arith, step inside)

-- a positive sum has a positive term
pub sum_pos : (n : ℕ) (f : ℕ → ℕ) → 0 < sum n f → (i : ℕ) × (i < n) × (0 < f i)
unfolding sum
sum_pos zero f more = absurd (omega arith)
sum_pos (suc n) f more = go (eq-zero-or-pos (f n)) (sum_pos n f)
  where
    go : (f n ≡ 0) ⊎ (0 < f n) → (0 < sum n f → (i : ℕ) × (i < n) × (0 < f i)) → (i : ℕ) × (i < suc n) × (0 < f i)
    go (inl none) step = let found = step (omega arith) in (found.0, omega (arith, found.1), found.2)
    go (inr some) step = (n, omega arith, some)

-- a sum whose terms all are 0 but one is that term
pub sum_only : (n : ℕ) (f : ℕ → ℕ) (k : ℕ) → k < n → ((i : ℕ) → i < n → (i ≡ k → ⊥) → f i ≡ 0) → sum n f ≡ f k
unfolding sum
sum_only zero f k below others = absurd (omega arith)
sum_only (suc n) f k below others = go (eq-or-lt_of_le (le_of_suc-le-suc below)) (λ inside. sum_only n f k inside (λ i h. others i (omega arith)))
  where
    go : (k ≡ n) ⊎ (k < n) → (k < n → sum n f ≡ f k) → sum n f + f n ≡ f k
    go (inl last) step =
        let none : sum n f ≡ 0 = sum_zero n (λ i h. others i (omega arith) (λ e. omega arith)) in
        rw last (omega arith)
    go (inr inside) step = omega (arith, step inside, others n (omega arith) (λ e. omega arith))

-- Σ over i of [i = v] × w i is w v
pub sum_hit : (n v : ℕ) (w : ℕ → ℕ) → v < n → sum n (λ i. only_if (eqb v i) (w i)) ≡ w v
sum_hit n v w below =
    sum_only n (λ i. only_if (eqb v i) (w i)) v below (λ i h other. rw (ne_eqb v i (λ e. other (sym e)))) ∙ ap (λ (t : Bool). only_if t (w v)) (eq-eqb v v refl)

-- one term grows by d
pub sum_update : (n : ℕ) (f g : ℕ → ℕ) (k d : ℕ) → k < n → g k ≡ f k + d → ((i : ℕ) → i < n → (i ≡ k → ⊥) → g i ≡ f i) → sum n g ≡ sum n f + d
unfolding sum
sum_update zero f g k d below here others = absurd (omega arith)
sum_update (suc n) f g k d below here others = go (eq-or-lt_of_le (le_of_suc-le-suc below)) (λ inside. sum_update n f g k d inside here (λ i h. others i (omega arith)))
  where
    go : (k ≡ n) ⊎ (k < n) → (k < n → sum n g ≡ sum n f + d) → sum n g + g n ≡ sum n f + f n + d
    go (inl last) step =
        let same : sum n g ≡ sum n f = sum_cong n (λ i h. others i (omega arith) (λ e. omega arith)) in
        let grown : g n ≡ f n + d = rw last at here in
        omega arith
    go (inr inside) step = omega (arith, step inside, others n (omega arith) (λ e. omega arith))

-- the code's n + 1: closes the invariant of a summing loop
pub sum_next : (n : ℕ) (f : ℕ → ℕ) → sum (n + 1) f ≡ sum n f + f n
unfolding sum
sum_next n f = rw (add-one n)

-- a loop that sums: before its first turn, after one more and after the last
module _ (f : ℕ → ℕ) where
  pub sum_none : 0 ≡ sum 0 f
  unfolding sum
  sum_none = refl

  pub sum_more : (i total value : ℕ) → total ≡ sum i f → value ≡ f i → total + value ≡ sum (i + 1) f
  sum_more i total value before is-next = omega (arith, sum_next i f)

  pub sum_whole : (i count n : ℕ) → i ≤ count → count ≤ i → n ≡ count → (total : ℕ) → total ≡ sum i f → total ≡ sum n f
  sum_whole i count n low high counted total e = let all : n ≡ i = omega arith in rw all e

-- a sum of sums over consecutive stretches is one sum
pub sum_stretches : (n : ℕ) (start : ℕ → ℕ) (f : ℕ → ℕ) → start 0 ≡ 0 → (size : ℕ → ℕ)
    → ((i : ℕ) → i < n → start (suc i) ≡ start i + size i)
    → sum n (λ i. sum (size i) (λ u. f (start i + u))) ≡ sum (start n) f
unfolding sum
sum_stretches zero start f begin size step = rw begin
sum_stretches (suc n) start f begin size step =
    rw (step n (omega arith)) (omega (arith, sum_split (start n) (size n) f, sum_stretches n start f begin size (λ i below. step i (omega arith))))

pub product_pos : (n : ℕ) {f : ℕ → ℕ} → ((i : ℕ) → i < n → 0 < f i) → 0 < product n f
unfolding product
product_pos zero positive = omega arith
product_pos (suc n) positive = mul-pos (product_pos n (λ i below. positive i (omega arith))) (positive n (omega arith))

pub product_cong : (n : ℕ) {f g : ℕ → ℕ} → ((i : ℕ) → i < n → f i ≡ g i) → product n f ≡ product n g
unfolding product
product_cong zero same = refl
product_cong (suc n) same = rw (product_cong n (λ i below. same i (omega arith)), same n (omega arith))

-- a factor times all others is the product
pub product_others : (n : ℕ) (f : ℕ → ℕ) (k : ℕ) → k < n → product n (λ i. cond (eqb i k) 1 (f i)) * f k ≡ product n f
unfolding product
product_others zero f k below = absurd (omega arith)
product_others (suc n) f k below = go (eq-or-lt_of_le (le_of_suc-le-suc below)) (product_others n f k)
  where
    go : (k ≡ n) ⊎ (k < n) → (k < n → product n (λ i. cond (eqb i k) 1 (f i)) * f k ≡ product n f)
        → product n (λ i. cond (eqb i k) 1 (f i)) * cond (eqb n k) 1 (f n) * f k ≡ product n f * f n
    go (inl last) step =
        let others : product n (λ i. cond (eqb i k) 1 (f i)) ≡ product n f = product_cong n (λ i h. rw (ne_eqb i k (λ e. omega arith))) in
        rw (others, eq-eqb n k (sym last), last) (omega arith)
    go (inr inside) step = rw (ne_eqb n k (λ e. omega arith)) (omega (arith, ap (λ (x : ℕ). x * f n) (step inside)))
