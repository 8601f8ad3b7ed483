-- Laws of numbers stored in an array one after another.
-- Assumes nothing.
use mathlib.Core.Path.{◌≡◌, refl}
use mathlib.Core.List.{List}
use Prim.Native.Nat.{ℕ, zero, suc, ◌+◌, ◌<◌}
use native.Mathlib.Omega.{arith}
use lib.ListN.{length, set, replicate}
use lib.Seq.{get_or-set_same, get_or-set_other}
use borrow.Author.Count.{below_more}
use Rattle.workloads.specs.Arrays.{numbers_in}

-- what holds of the first numbers of an array holds of one more, once it is stored
pub stored_more : (P : (place number : ℕ) → Type 0) (array : List ℕ) (i value : ℕ) → i < length array → ((k : ℕ) → k < i → P k (numbers_in array k)) → P i value
    → (k : ℕ) → k < i + 1 → P k (numbers_in (set array i value) k)
stored_more P array i value inside before here =
    below_more _ i (λ k less. rw (get_or-set_other array i k value 0 (λ e. omega arith)) (before k less)) (rw (get_or-set_same array i value 0 inside) here)

-- an array of zeros
pub zeros : (count i : ℕ) → numbers_in (replicate count 0) i ≡ 0
zeros zero i = refl
zeros (suc count) zero = refl
zeros (suc count) (suc i) = zeros count i
