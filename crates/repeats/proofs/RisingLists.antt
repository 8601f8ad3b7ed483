-- Strictly rising lists of times: two with the same times are the same list.
-- Assumes nothing.
use mathlib.Core.Path.{◌≡◌, refl, sym}
use mathlib.Core.List.{List, [], ◌∷◌}
use Prim.Native.Nat.{ℕ, zero, suc, ◌<◌, ◌≤◌}
use native.Mathlib.Omega.{arith}
use lib.ListN.{length, get_or}
use Rattle.model.proofs.BoundsOf.{RisesFrom, StandsIn}

-- what rises at each place rises from its start
rises_from : (low : ℕ) (xs : List ℕ) → (0 < length xs → low ≤ get_or xs 0 0) → ((i : ℕ) → suc i < length xs → get_or xs i 0 < get_or xs (suc i) 0)
    → RisesFrom low xs
rises_from low [] first rises = tt
rises_from low (x ∷ xs) first rises =
    (first (omega arith), rises_from (suc x) xs (λ some. rises 0 (omega arith)) (λ i below. rises (suc i) (omega arith)))

-- a time of a list is at least where it rises from
stands_high : (low : ℕ) (xs : List ℕ) (i : ℕ) → RisesFrom low xs → i < length xs → low ≤ get_or xs i 0
stands_high low [] i rises below = absurd (omega arith)
stands_high low (x ∷ xs) zero rises below = rises.0
stands_high low (x ∷ xs) (suc i) rises below = omega (arith, rises.0, stands_high (suc x) xs i rises.1 (omega arith))

-- the times of one list are times of another
abbrev Within : (xs ys : List ℕ) → Type 0
Within xs ys = (time : ℕ) → StandsIn xs time → StandsIn ys time

-- but for the first of each
rest_within : (x y : ℕ) (xs ys : List ℕ) → x ≡ y → RisesFrom (suc x) xs → Within (x ∷ xs) (y ∷ ys) → Within xs ys
rest_within x y xs ys same rises there time (i, below, e) = go (there time (suc i, omega arith, e))
  where
    go : StandsIn (y ∷ ys) time → StandsIn ys time
    go (zero, under, f) = absurd (omega (arith, stands_high (suc x) xs i rises below))
    go (suc o, under, f) = (o, omega arith, f)

same_from : (low : ℕ) (xs ys : List ℕ) → RisesFrom low xs → RisesFrom low ys → Within xs ys → Within ys xs → xs ≡ ys
same_from low [] [] one two there back = refl
same_from low [] (y ∷ ys) one two there back = absurd (omega (arith, (back y (0, omega arith, refl)).1))
same_from low (x ∷ xs) [] one two there back = absurd (omega (arith, (there x (0, omega arith, refl)).1))
same_from low (x ∷ xs) (y ∷ ys) one two there back =
    let in_ys = there x (0, omega arith, refl) in
    let in-xs = back y (0, omega arith, refl) in
    let from-y : RisesFrom y (y ∷ ys) = (omega arith, two.1) in
    let from-x : RisesFrom x (x ∷ xs) = (omega arith, one.1) in
    let same : x ≡ y = omega (
      arith,
      in_ys.2,
      in-xs.2,
      stands_high y (y ∷ ys) in_ys.0 from-y in_ys.1,
      stands_high x (x ∷ xs) in-xs.0 from-x in-xs.1,
    ) in
    let later : RisesFrom (suc x) ys = rw (sym same) at two.1 in
    rw (
      same,
      same_from (suc x) xs ys one.1 later (rest_within x y xs ys same one.1 there) (rest_within y x ys xs (sym same) two.1 back),
    )

-- each time is below its neighbour
abbrev pub Rises : List ℕ → Type 0
Rises xs = (i : ℕ) → suc i < length xs → get_or xs i 0 < get_or xs (suc i) 0

pub same_rising : (xs ys : List ℕ) → Rises xs → Rises ys → ((time : ℕ) → StandsIn xs time → StandsIn ys time)
    → ((time : ℕ) → StandsIn ys time → StandsIn xs time) → xs ≡ ys
same_rising xs ys one two =
    same_from 0 xs ys (rises_from 0 xs (λ some. omega arith) one) (rises_from 0 ys (λ some. omega arith) two)
