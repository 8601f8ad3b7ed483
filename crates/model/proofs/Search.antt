-- Laws of searches.
-- Assumes nothing.
use mathlib.Core.Path.{◌≡◌, refl, sym, ◌∙◌}
use mathlib.Core.Bool.{Bool, true, false, ◌||◌, or-false, or-true}
use mathlib.Core.Logic.{◌⊎◌, inl, inr}
use mathlib.Core.Option.{Option, none, some}
use Prim.Native.Nat.{ℕ, zero, suc, ◌+◌, ◌<◌, ◌≤◌, min}
use native.Mathlib.Nat.{eq-or-lt_of_le, le_of_suc-le-suc, zero-add}
use native.Mathlib.Numerals.{add-one}
use native.Mathlib.Omega.{arith}
use Rattle.model.specs.Search.{some_below, first_from, first_below, smaller, least_below}
use Rattle.model.proofs.Numbers.{lt_or_le, true_or_false, true≢false}

-- some number that passes the test
pub some_below_found : (n : ℕ) (test : ℕ → Bool) → some_below n test ≡ true → (i : ℕ) × (i < n) × (test i ≡ true)
unfolding some_below
some_below_found zero test e = absurd (true≢false (sym e))
some_below_found (suc n) test e = go (true_or_false (test n)) (some_below_found n test)
  where
    go : (test n ≡ true) ⊎ (test n ≡ false) → (some_below n test ≡ true → (i : ℕ) × (i < n) × (test i ≡ true))
        → (i : ℕ) × (i < suc n) × (test i ≡ true)
    go (inl here) step = (n, omega arith, here)
    go (inr not_here) step =
        let found = step (rw (not_here, or-false) at e) in
        (found.0, omega (arith, found.1), found.2)

-- one number that passes the test is enough
pub some_below_holds : (n : ℕ) (test : ℕ → Bool) (i : ℕ) → i < n → test i ≡ true → some_below n test ≡ true
unfolding some_below
some_below_holds zero test i below passes = absurd (omega arith)
some_below_holds (suc n) test i below passes = go (eq-or-lt_of_le (le_of_suc-le-suc below)) (λ inside. some_below_holds n test i inside passes)
  where
    go : (i ≡ n) ⊎ (i < n) → (i < n → some_below n test ≡ true) → (some_below n test || test n) ≡ true
    go (inl last) step = let here : test n ≡ true = rw last at passes in rw (here, or-true)
    go (inr inside) step = rw (step inside)

-- no number passes the test
pub some_below_none : (n : ℕ) (test : ℕ → Bool) → some_below n test ≡ false → (i : ℕ) → i < n → test i ≡ false
some_below_none n test e i below = go (true_or_false (test i))
  where
    go : (test i ≡ true) ⊎ (test i ≡ false) → test i ≡ false
    go (inl passes) = absurd (true≢false (sym (some_below_holds n test i below passes) ∙ e))
    go (inr fails) = fails

pub some_below_fails : (n : ℕ) (test : ℕ → Bool) → ((i : ℕ) → i < n → test i ≡ false) → some_below n test ≡ false
unfolding some_below
some_below_fails zero test fails = refl
some_below_fails (suc n) test fails = rw (some_below_fails n test (λ i below. fails i (omega arith)), fails n (omega arith))

-- the first number from a start that passes the test is found
pub first_from_is : (first count : ℕ) (test : ℕ → Bool) (d : ℕ) → d < count → ((k : ℕ) → k < d → test (first + k) ≡ false) → test (first + d) ≡ true
    → first_from first count test ≡ first + d
unfolding first_from
first_from_is first zero test d below before here = absurd (omega arith)
first_from_is first (suc count) test zero below before here =
    let e : first + 0 ≡ first = omega arith in
    let now : test first ≡ true = rw e at here in
    rw (now, e)
first_from_is first (suc count) test (suc d) below before here =
    let e : first + 0 ≡ first = omega arith in
    let later : first + suc d ≡ suc first + d = omega arith in
    let now : test first ≡ false = rw e at (before 0 (omega arith)) in
    rw (now, later)
    (first_from_is (suc first) count test d (omega arith)
    (λ k h. let next : suc first + k ≡ first + suc k = omega arith in rw next (before (suc k) (omega arith)))
    (rw later at here))

from_passed : (first count : ℕ) (test : ℕ → Bool) → ((k : ℕ) → k < count → test (first + k) ≡ false) → first_from first count test ≡ first + count
unfolding first_from
from_passed first zero test fails = omega arith
from_passed first (suc count) test fails =
    let e : first + 0 ≡ first = omega arith in
    let later : first + suc count ≡ suc first + count = omega arith in
    let now : test first ≡ false = rw e at (fails 0 (omega arith)) in
    rw (now, later)
    (from_passed (suc first) count test
    (λ k h. let next : suc first + k ≡ first + suc k = omega arith in rw next (fails (suc k) (omega arith))))

-- the first number that passes the test is found
pub first_below_is : (n : ℕ) (test : ℕ → Bool) (i : ℕ) → i < n → ((k : ℕ) → k < i → test k ≡ false) → test i ≡ true → first_below n test ≡ i
first_below_is n test i below before here =
    rw zero-add at (first_from_is 0 n test i below (λ k h. rw zero-add (before k h)) (rw zero-add here))

-- with none that passes the count is answered
pub first_below_none : (n : ℕ) (test : ℕ → Bool) → ((k : ℕ) → k < n → test k ≡ false) → first_below n test ≡ n
first_below_none n test fails = rw zero-add at (from_passed 0 n test (λ k h. rw zero-add (fails k h)))

-- the first number below n that passes a test, or that there is none
pub first_or_none : (n : ℕ) (test : ℕ → Bool)
    → ((i : ℕ) × (i < n) × ((k : ℕ) → k < i → test k ≡ false) × (test i ≡ true)) ⊎ ((k : ℕ) → k < n → test k ≡ false)
first_or_none zero test = inr (λ k h. absurd (omega arith))
first_or_none (suc n) test = go (first_or_none n test) (true_or_false (test n))
  where
    go : ((i : ℕ) × (i < n) × ((k : ℕ) → k < i → test k ≡ false) × (test i ≡ true)) ⊎ ((k : ℕ) → k < n → test k ≡ false)
        → (test n ≡ true) ⊎ (test n ≡ false)
        → ((i : ℕ) × (i < suc n) × ((k : ℕ) → k < i → test k ≡ false) × (test i ≡ true)) ⊎ ((k : ℕ) → k < suc n → test k ≡ false)
    go (inl found) last = inl (found.0, omega (arith, found.1), found.2, found.3)
    go (inr fails) (inl here) = inl (n, omega arith, fails, here)
    go (inr fails) (inr not_here) = inr (λ k h. last k (eq-or-lt_of_le (le_of_suc-le-suc h)))
      where
        last : (k : ℕ) → (k ≡ n) ⊎ (k < n) → test k ≡ false
        last k (inl e) = rw e not_here
        last k (inr h) = fails k h

-- what first_below answers: below n a number that passes with none before it, otherwise n with none that passes
pub record FirstBelow (n : ℕ) (test : ℕ → Bool) (i : ℕ) : Type 0 where
  pub within : i ≤ n
  pub before : (k : ℕ) → k < i → test k ≡ false
  pub here : i < n → test i ≡ true

pub first_below_law : (n : ℕ) (test : ℕ → Bool) → FirstBelow n test (first_below n test)
first_below_law n test = go (first_or_none n test)
  where
    go : ((i : ℕ) × (i < n) × ((k : ℕ) → k < i → test k ≡ false) × (test i ≡ true)) ⊎ ((k : ℕ) → k < n → test k ≡ false)
        → FirstBelow n test (first_below n test)
    go (inl found) =
        rw (first_below_is n test found.0 found.1 found.2 found.3)
        (record { within = omega (arith, found.1); before = found.2; here = λ h. found.3 })
    go (inr fails) = rw (first_below_none n test fails) (record { within = omega arith; before = fails; here = λ h. absurd (omega arith) })

-- what least_below answers
pub record LeastBelow (n : ℕ) (value : ℕ → ℕ) (test : ℕ → Bool) (least : ℕ) : Type 0 where
  pub found : (i : ℕ) × (i < n) × (test i ≡ true) × (value i ≡ least)
  pub lowest : (i : ℕ) → i < n → test i ≡ true → least ≤ value i

pub least_below_none : (n : ℕ) (value : ℕ → ℕ) (test : ℕ → Bool) → ((i : ℕ) → i < n → test i ≡ false) → least_below n value test ≡ none
unfolding least_below
least_below_none zero value test fails = refl
least_below_none (suc n) value test fails = rw (fails n (omega arith)) (least_below_none n value test (λ i h. fails i (omega arith)))

-- what holds of n and of all numbers below it holds below suc n
below_suc : (P : ℕ → Type 0) (n : ℕ) → P n → ((i : ℕ) → i < n → P i) → (i : ℕ) → i < suc n → P i
below_suc P n last before i below = go (eq-or-lt_of_le (le_of_suc-le-suc below))
  where
    go : (i ≡ n) ⊎ (i < n) → P i
    go (inl e) = rw e last
    go (inr h) = before i h

abbrev LeastAnswer : (n : ℕ) (value : ℕ → ℕ) (test : ℕ → Bool) → Option ℕ → Type 0
LeastAnswer n value test none = (i : ℕ) → i < n → test i ≡ false
LeastAnswer n value test (some least) = LeastBelow n value test least

least_answer : (n : ℕ) (value : ℕ → ℕ) (test : ℕ → Bool) → LeastAnswer n value test (least_below n value test)
unfolding least_below
least_answer zero value test = λ i h. absurd (omega arith)
least_answer (suc n) value test = step (test n) refl (least_below n value test) (least_answer n value test)
  where
    step : (t : Bool) → test n ≡ t → (found : Option ℕ) → LeastAnswer n value test found
        → LeastAnswer (suc n) value test (smaller t (value n) found)
    step false e none fails = below_suc (λ i. test i ≡ false) n e fails
    step false e (some least) law =
        let (i, below, passes, is) = law.found in
        record {
          found = (i, omega arith, passes, is);
          lowest = below_suc (λ i. test i ≡ true → least ≤ value i) n (λ p. absurd (true≢false (sym p ∙ e))) law.lowest;
        }
    step true e none fails =
        record {
          found = (n, omega arith, e, refl);
          lowest =
              below_suc (λ i. test i ≡ true → value n ≤ value i) n (λ p. omega arith) (λ i h p. absurd (true≢false (sym p ∙ fails i h)));
        }
    step true e (some least) law =
        record {
          found = nearer (lt_or_le (value n) least);
          lowest =
              below_suc (λ i. test i ≡ true → min (value n) least ≤ value i) n (λ p. omega arith)
              (λ i h p. omega (arith, law.lowest i h p));
        }
      where
        nearer : (value n < least) ⊎ (least ≤ value n) → (i : ℕ) × (i < suc n) × (test i ≡ true) × (value i ≡ min (value n) least)
        nearer (inl less) = (n, omega arith, e, omega arith)
        nearer (inr more) = let (i, below, passes, is) = law.found in (i, omega arith, passes, omega arith)

pub least_below_found : (n : ℕ) (value : ℕ → ℕ) (test : ℕ → Bool) (least : ℕ) → least_below n value test ≡ some least
    → LeastBelow n value test least
least_below_found n value test least e = rw e at (least_answer n value test)

pub least_below_fails : (n : ℕ) (value : ℕ → ℕ) (test : ℕ → Bool) → least_below n value test ≡ none → (i : ℕ) → i < n → test i ≡ false
least_below_fails n value test e = rw e at (least_answer n value test)

-- with one that passes the test there is a least
pub least_below_exists : (n : ℕ) (value : ℕ → ℕ) (test : ℕ → Bool) (i : ℕ) → i < n → test i ≡ true
    → (least : ℕ) × (least_below n value test ≡ some least)
least_below_exists n value test i below passes = go (least_below n value test) (least_answer n value test)
  where
    go : (found : Option ℕ) → LeastAnswer n value test found → (least : ℕ) × (found ≡ some least)
    go none fails = absurd (true≢false (sym passes ∙ fails i below))
    go (some least) law = (least, refl)

-- and a number that has it
pub least_index : (n : ℕ) (value : ℕ → ℕ) (test : ℕ → Bool) (i : ℕ) → i < n → test i ≡ true
    → (k : ℕ) × (k < n) × (test k ≡ true) × ((l : ℕ) → l < n → test l ≡ true → value k ≤ value l)
least_index n value test i below passes =
    let (least, e) = least_below_exists n value test i below passes in
    let law = least_below_found n value test least e in
    let (k, inside, holds, is) = law.found in
    (k, inside, holds, λ l h p. omega (arith, law.lowest l h p))

-- the next step of a search that counts with n + 1
pub some_below_next : (n : ℕ) (test : ℕ → Bool) → some_below (n + 1) test ≡ (some_below n test || test n)
unfolding some_below
some_below_next n test = rw (add-one n)

-- what has the least value among 0, 1, .. , last, and is the first to have it
pub record FirstLowest (last : ℕ) (value : ℕ → ℕ) (i : ℕ) : Type 0 where
  pub within : i ≤ last
  pub lowest : (k : ℕ) → k ≤ last → value i ≤ value k
  pub first : (k : ℕ) → k < i → value i < value k

pub first_lowest : (last : ℕ) (value : ℕ → ℕ) → (i : ℕ) × FirstLowest last value i
first_lowest zero value =
    (0, record { within = omega arith; lowest = λ k h. let e : k ≡ 0 = omega arith in rw e (omega arith); first = λ k h. absurd (omega arith) })
first_lowest (suc last) value = let before = first_lowest last value in go before.0 before.1 (lt_or_le (value (suc last)) (value before.0))
  where
    all : (least : ℕ) → ((k : ℕ) → k ≤ last → least ≤ value k) → least ≤ value (suc last) → (k : ℕ) → k ≤ suc last → least ≤ value k
    all least before here k h = each (eq-or-lt_of_le h)
      where
        each : (k ≡ suc last) ⊎ (k < suc last) → least ≤ value k
        each (inl e) = rw e here
        each (inr earlier) = before k (omega arith)

    go : (i : ℕ) → FirstLowest last value i → (value (suc last) < value i) ⊎ (value i ≤ value (suc last)) → (i : ℕ) × FirstLowest (suc last) value i
    go i h (inl less) =
        let below : (k : ℕ) → k ≤ last → value (suc last) < value k = λ k l. omega (arith, h.lowest k l) in (
          suc last,
          record {
            within = omega arith;
            lowest = all (value (suc last)) (λ k l. omega (arith, below k l)) (omega arith);
            first = λ k l. below k (omega arith);
          },
        )
    go i h (inr more) = (i, record { within = omega (arith, h.within); lowest = all (value i) h.lowest more; first = h.first })
