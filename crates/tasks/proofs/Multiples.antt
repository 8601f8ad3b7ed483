-- Laws of the least common multiple: the search finds the least of the numbers above 0 that every period divides, and the
-- least divides them all.
-- Assumes nothing.
use mathlib.Core.Path.{◌≡◌, refl, sym, ◌∙◌}
use mathlib.Core.Bool.{Bool, true, false}
use mathlib.Core.Logic.{◌⊎◌, inl, inr}
use mathlib.Core.List.{List, [], ◌∷◌}
use Prim.Native.Nat.{ℕ, zero, suc, ◌+◌, ◌-◌, ◌%◌, ◌<◌, ◌≤◌, ◌∣◌}
use native.Mathlib.Nat.{
  eq-zero-or-pos,
  le_of_suc-le-suc,
  mod-lt,
  mul-pos,
  dvd-mul_right,
  dvd-mul_left_of_dvd,
  dvd-mod_iff,
  mod-eq-zero_of_dvd,
  dvd_of_mod-eq-zero,
}
use native.Mathlib.Omega.{arith}
use lib.Dec.{eqb}
use lib.ListN.{length}
use borrow.Author.Tests.{eqb-true, eq-eqb}
use Rattle.model.proofs.Numbers.{lt_or_le, true_or_false, true≢false, both_true}
use Rattle.model.proofs.Search.{first_from_is, first_or_none}
use Rattle.tasks.specs.declared.Task.{Task}
use Rattle.tasks.specs.Tasks.{task_of}
use Rattle.tasks.specs.Multiples.{
  is_common_multiple,
  period_product,
  multiple_of,
  CommonMultiple,
  MultipleIsLeast,
}

abbrev pub PositivePeriods : List Task → Type 0
PositivePeriods tasks = (i : ℕ) → i < length tasks → 0 < (task_of tasks i).period

-- none of the common multiples above 0 is smaller
abbrev pub Least : List Task → ℕ → Type 0
Least tasks m = (n : ℕ) → 0 < n → CommonMultiple tasks n → m ≤ n

-- the test passes exactly the common multiples
common_passed : (tasks : List Task) (n : ℕ) → is_common_multiple tasks n ≡ true → CommonMultiple tasks n
unfolding is_common_multiple
common_passed [] n e i below = absurd (omega arith)
common_passed (task ∷ tasks) n e zero below =
    dvd_of_mod-eq-zero task.period (eqb-true _ _ (both_true (eqb (n % task.period) 0) _ e).0)
common_passed (task ∷ tasks) n e (suc i) below =
    common_passed tasks n (both_true (eqb (n % task.period) 0) _ e).1 i (le_of_suc-le-suc below)

common_passes : (tasks : List Task) (n : ℕ) → CommonMultiple tasks n → is_common_multiple tasks n ≡ true
unfolding is_common_multiple
common_passes [] n h = refl
common_passes (task ∷ tasks) n h =
    rw (eq-eqb _ _ (mod-eq-zero_of_dvd task.period {n = n} (h 0 (omega arith))))
    (common_passes tasks n (λ i below. h (suc i) (omega arith)))

-- the product of the periods is a common multiple above 0
product_positive : (tasks : List Task) → PositivePeriods tasks → 0 < period_product tasks
unfolding period_product
product_positive [] positive = omega arith
product_positive (task ∷ tasks) positive =
    mul-pos (positive 0 (omega arith)) (product_positive tasks (λ i below. positive (suc i) (omega arith)))

product_common : (tasks : List Task) → CommonMultiple tasks (period_product tasks)
unfolding period_product
product_common [] i below = absurd (omega arith)
product_common (task ∷ tasks) zero below = dvd-mul_right task.period (period_product tasks)
product_common (task ∷ tasks) (suc i) below =
    dvd-mul_left_of_dvd (task_of tasks i).period (product_common tasks i (le_of_suc-le-suc below)) task.period

-- the search finds the least
pub least_is_multiple : (tasks : List Task) → PositivePeriods tasks → (m : ℕ) → 0 < m → CommonMultiple tasks m → Least tasks m
    → multiple_of tasks ≡ m
unfolding multiple_of
least_is_multiple tasks positive m some common least =
    let high : m ≤ period_product tasks = least (period_product tasks) (product_positive tasks positive) (product_common tasks) in
    let e : 1 + (m - 1) ≡ m = omega arith in
    first_from_is 1 (period_product tasks) (is_common_multiple tasks) (m - 1) (omega arith) before (rw e (common_passes tasks m common)) ∙ e
  where
    before : (k : ℕ) → k < m - 1 → is_common_multiple tasks (1 + k) ≡ false
    before k below = go (true_or_false (is_common_multiple tasks (1 + k)))
      where
        go : (is_common_multiple tasks (1 + k) ≡ true) ⊎ (is_common_multiple tasks (1 + k) ≡ false) → is_common_multiple tasks (1 + k) ≡ false
        go (inl e) = absurd (omega (arith, least (1 + k) (omega arith) (common_passed tasks (1 + k) e)))
        go (inr e) = e

-- the least of some numbers' common multiples divides each of these, since what it leaves of one is a smaller one
pub least_divides : (count : ℕ) (period : ℕ → ℕ) (m : ℕ) → 0 < m → ((i : ℕ) → i < count → period i ∣ m)
    → ((n : ℕ) → 0 < n → ((i : ℕ) → i < count → period i ∣ n) → m ≤ n)
    → (n : ℕ) → ((i : ℕ) → i < count → period i ∣ n) → m ∣ n
least_divides count period m some common least n h = go (eq-zero-or-pos (n % m))
  where
    left : (i : ℕ) → i < count → period i ∣ n % m
    left i below = (dvd-mod_iff (period i) {m = n} {n = m} (common i below)).1 (h i below)

    go : (n % m ≡ 0) ⊎ (0 < n % m) → m ∣ n
    go (inl none) = dvd_of_mod-eq-zero m none
    go (inr more) = absurd (omega (arith, least (n % m) more left, mod-lt n {m = m} some))

-- there is a least common multiple above 0
least_exists : (tasks : List Task) → PositivePeriods tasks → (m : ℕ) × (0 < m) × CommonMultiple tasks m × Least tasks m
least_exists tasks positive = go (first_or_none (period_product tasks) test)
  where
    test : ℕ → Bool
    test k = is_common_multiple tasks (1 + k)

    passes : (n : ℕ) → 0 < n → CommonMultiple tasks n → test (n - 1) ≡ true
    passes n some common = let e : 1 + (n - 1) ≡ n = omega arith in rw e (common_passes tasks n common)

    go : ((i : ℕ) × (i < period_product tasks) × ((k : ℕ) → k < i → test k ≡ false) × (test i ≡ true))
        ⊎ ((k : ℕ) → k < period_product tasks → test k ≡ false)
        → (m : ℕ) × (0 < m) × CommonMultiple tasks m × Least tasks m
    go (inl (i, below, before, here)) = (1 + i, omega arith, common_passed tasks (1 + i) here, least)
      where
        least : Least tasks (1 + i)
        least n some common = late (lt_or_le (n - 1) i)
          where
            late : (n - 1 < i) ⊎ (i ≤ n - 1) → 1 + i ≤ n
            late (inl early) = absurd (true≢false (sym (passes n some common) ∙ before (n - 1) early))
            late (inr later) = omega arith
    go (inr fails) =
        let some = product_positive tasks positive in
        absurd
        (true≢false (sym (passes (period_product tasks) some (product_common tasks)) ∙ fails (period_product tasks - 1) (omega arith)))

pub multiple_is_least : MultipleIsLeast
multiple_is_least tasks valid =
    let positive : PositivePeriods tasks = λ i below. omega (arith, valid.some_deadline i below, valid.within_period i below) in
    let (m, some, common, least) = least_exists tasks positive in
    rw (least_is_multiple tasks positive m some common least)
    (record { positive = some; common = common; divides = least_divides (length tasks) (λ i. (task_of tasks i).period) m some common least; least = least })
