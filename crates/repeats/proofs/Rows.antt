-- Numbers k × size + i, i below size: row k and column i of a table. And sums over a stretch of terms.
-- Assumes nothing.
use mathlib.Core.Path.{◌≡◌}
use mathlib.Core.Logic.{◌⊎◌, inl, inr}
use Prim.Native.Nat.{ℕ, suc, ◌+◌, ◌-◌, ◌*◌, ◌/◌, ◌%◌, ◌<◌, ◌≤◌}
use native.Mathlib.Nat.{
  eq-zero-or-pos,
  mul-add-div_right,
  mul-add-mod_self_right,
  div-eq_of_lt,
  mod-eq_of_lt,
  mod-lt,
  div-add-mod',
  lt_of_mul-lt-mul_right,
  mul-le-mul_right,
}
use native.Mathlib.Omega.{arith}
use Rattle.model.specs.Sum.{sum}
use Rattle.model.proofs.Sum.{sum_zero, sum_split}

pub row_at : (size k i : ℕ) → i < size → (k * size + i) / size ≡ k
row_at size k i h = rw (mul-add-div_right {m = size} (omega arith) k i, div-eq_of_lt h) (omega arith)

pub column_at : (size k i : ℕ) → i < size → (k * size + i) % size ≡ i
column_at size k i h = rw (mul-add-mod_self_right k size i) (mod-eq_of_lt h)

pub in_rows : (rows size k i : ℕ) → k < rows → i < size → k * size + i < rows * size
in_rows rows size k i row column = omega (arith, mul-le-mul_right {m = suc k} {n = rows} size row)

-- what holds of each k × size + i holds of each number
pub each_number : (size : ℕ) (Goal : ℕ → Type 0) → 0 < size → ((k i : ℕ) → i < size → Goal (k * size + i)) → (t : ℕ) → Goal t
each_number size Goal positive each t =
    let e : t / size * size + t % size ≡ t = div-add-mod' t size in
    rw e at (each (t / size) (t % size) (mod-lt t positive))

pub each_row : (rows size : ℕ) (Goal : ℕ → Type 0) → ((k i : ℕ) → k < rows → i < size → Goal (k * size + i)) → (t : ℕ) → t < rows * size → Goal t
each_row rows size Goal each t below = go (eq-zero-or-pos size)
  where
    go : (size ≡ 0) ⊎ (0 < size) → Goal t
    go (inl none) = let e : rows * size ≡ 0 = rw none (omega arith) in absurd (omega arith)
    go (inr positive) =
        each_number size (λ t. t < rows * size → Goal t) positive
        (λ k i h inside. each k i (lt_of_mul-lt-mul_right size (omega arith)) h) t below

-- a sum whose terms are 0 outside a stretch
pub sum_block : (all start size : ℕ) (f : ℕ → ℕ) → start + size ≤ all
    → ((t : ℕ) → t < all → (t < start) ⊎ (start + size ≤ t) → f t ≡ 0) → sum all f ≡ sum size (λ i. f (start + i))
sum_block all start size f within none =
    let e : all ≡ start + (size + (all - (start + size))) = omega arith in
    let early : sum start f ≡ 0 = sum_zero start (λ t h. none t (omega arith) (inl h)) in
    let late : sum (all - (start + size)) (λ d. f (start + (size + d))) ≡ 0 =
    sum_zero (all - (start + size)) (λ d h. none (start + (size + d)) (omega arith) (inr (omega arith))) in
    rw e (omega (arith, sum_split start (size + (all - (start + size))) f, sum_split size (all - (start + size)) (λ d. f (start + d))))
