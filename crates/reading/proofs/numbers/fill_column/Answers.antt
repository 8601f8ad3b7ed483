use mathlib.Core.Path.{◌≡◌, refl, ◌∙◌}
use mathlib.Core.List.{List}
use Prim.Native.Nat.{ℕ, zero, suc, ◌+◌, ◌<◌}
use native.Mathlib.Omega.{arith}
use native.Mathlib.Decide.{ℕ_discrete}
use lib.ListN.{length, get_or, set, replicate, length-set}
use lib.Seq.{get_or-set_same, get_or-set_other}
use Rattle.reading.proofs.numbers.fill_column.Goals as goal

-- a law of each number and its place is kept by one more
put_more : (P : ℕ → ℕ → Type 0) (numbers : List ℕ) (i number : ℕ) → i < length numbers → ((k : ℕ) → k < i → P k (get_or numbers k 0)) → P i number
    → (k : ℕ) → k < i + 1 → P k (get_or (set numbers i number) k 0)
put_more P numbers i number inside below here k before = at (ℕ_discrete k i)
  where
    at : Dec (k ≡ i) → P k (get_or (set numbers i number) k 0)
    at (yes same) = rw (same, get_or-set_same numbers i number 0 inside) here
    at (no other) = rw (get_or-set_other numbers i k number 0 other) (below k (omega arith))

-- an array of zeros has zeros at every place, and past its end none is found
zeros : (size k : ℕ) → get_or (replicate {A = ℕ} size 0) k 0 ≡ 0
zeros zero k = refl
zeros (suc size) zero = refl
zeros (suc size) (suc k) = zeros size k

pub loop-i-init : goal.loop-i-init
loop-i-init g c =
    (omega arith, omega arith, λ k none. absurd (omega arith), λ k past. rw c.requires.numbers_value (zeros g.row.N k))

pub loop-i-preserved : goal.loop-i-preserved
loop-i-preserved g c =
    let inv = c.loop-i.invariant in
    let after = length-set c.loop-i.numbers c.loop-i.i c.number.result in (
      omega arith,
      omega arith,
      put_more (goal.F-post g c.args.number) c.loop-i.numbers c.loop-i.i c.number.result (omega (arith, inv.1, c.requires.numbers_read.0)) inv.2 c.number.ensures,
      λ k past. get_or-set_other c.loop-i.numbers c.loop-i.i k c.number.result 0 (λ e. omega arith) ∙ inv.3 k (omega arith),
    )
