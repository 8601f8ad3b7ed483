-- The jobs of an interval take turns in order of number, each for its own cycles. Here an interval is a number of slots, each
-- with a frequency, and the slot's job is the first whose cycles, with those of the jobs before it, are not yet delivered.
-- Where no slot crosses the end of a turn and all cycles are delivered, each job's slots deliver exactly its cycles.
-- Assumes nothing.
use mathlib.Core.Path.{◌≡◌, refl, sym}
use mathlib.Core.Bool.{Bool, true, false}
use mathlib.Core.Logic.{◌⊎◌, inl, inr}
use Prim.Native.Nat.{ℕ, zero, suc, ◌+◌, ◌*◌, ◌<◌, ◌≤◌, min, max}
use native.Mathlib.Nat.{eq-or-lt_of_le, mul-le-mul_left}
use native.Mathlib.Omega.{arith}
use lib.Dec.{ltb, eqb}
use borrow.Author.Tests.{ltb-true, ltb-false, lt-ltb, le-ltb, eqb-true, eq-eqb}
use Rattle.model.specs.Sum.{sum, only_if}
use Rattle.model.specs.Search.{first_below}
use Rattle.model.proofs.Numbers.{lt_or_le, true≢false}
use Rattle.model.proofs.Search.{FirstBelow, first_below_is, first_below_law}
use Rattle.model.proofs.Sum.{sum_telescopes, sum_longer}

-- the job, of n jobs, whose turn it is when so much has been delivered, times q
abbrev pub turn_of : (q n : ℕ) (share : ℕ → ℕ) (delivered : ℕ) → ℕ
turn_of q n share delivered = first_below n (λ j. ltb delivered (q * sum (suc j) share))

module _ (q : ℕ) (share : ℕ → ℕ) where
  turns_rise : (j k : ℕ) → j ≤ k → q * sum j share ≤ q * sum k share
  turns_rise j k less = mul-le-mul_left q (sum_longer share less)

  -- what the jobs before j get is delivered when the turn of each is over
  turns_over : (j delivered : ℕ) → ((k : ℕ) → k < j → ltb delivered (q * sum (suc k) share) ≡ false) → q * sum j share ≤ delivered
  unfolding sum
  turns_over zero delivered over = omega arith
  turns_over (suc j) delivered over = ltb-false _ _ (over j (omega arith))

  module _ (n : ℕ) where
    turn_is : (j delivered : ℕ) → j < n → q * sum j share ≤ delivered → delivered < q * sum (suc j) share → turn_of q n share delivered ≡ j
    turn_is j delivered below begun less = first_below_is n (λ j. ltb delivered (q * sum (suc j) share)) j below over (lt-ltb _ _ less)
      where
        over : (k : ℕ) → k < j → ltb delivered (q * sum (suc k) share) ≡ false
        over k before = le-ltb delivered (q * sum (suc k) share) (omega (arith, turns_rise (suc k) j before))

    -- the search for the job whose turn it is, by its answer
    turn_law : (j delivered : ℕ) → turn_of q n share delivered ≡ j → FirstBelow n (λ j. ltb delivered (q * sum (suc j) share)) j
    turn_law j delivered e = rw e at (first_below_law n (λ j. ltb delivered (q * sum (suc j) share)))

    turn_begun : (j delivered : ℕ) → j < n → turn_of q n share delivered ≡ j
        → (q * sum j share ≤ delivered) × (delivered < q * sum (suc j) share)
    turn_begun j delivered below e =
        let law = turn_law j delivered e in
        (turns_over j delivered law.before, ltb-true _ _ (law.here below))

    -- while not all is delivered it is some job's turn
    pub some_turn : (delivered : ℕ) → delivered < q * sum n share → turn_of q n share delivered < n
    some_turn delivered less = go (eq-or-lt_of_le (turn_law (turn_of q n share delivered) delivered refl).within)
      where
        go : (turn_of q n share delivered ≡ n) ⊎ (turn_of q n share delivered < n) → turn_of q n share delivered < n
        go (inl e) = absurd (omega (arith, turns_over n delivered (turn_law n delivered e).before))
        go (inr below) = below

-- x, but at least a and at most b
abbrev clip : (a b x : ℕ) → ℕ
clip a b x = min (max x a) b

-- What a step from d to e adds between a and b, where it crosses neither: all, where it begins there, and otherwise nothing.
clip_step : (a b d e w : ℕ) (within : Bool) → a ≤ b → d + w ≡ e → (d < a → e ≤ a) → (d < b → e ≤ b)
    → (within ≡ true → (a ≤ d) × (d < b)) → (a ≤ d → d < b → within ≡ true) → clip a b d + only_if within w ≡ clip a b e
clip_step a b d e w true ordered step low high inside begun =
    let here = inside refl in
    let top : e ≤ b = high here.1 in
    omega (arith, here.0)
clip_step a b d e w false ordered step low high inside begun = go (lt_or_le d a) (lt_or_le d b)
  where
    go : (d < a) ⊎ (a ≤ d) → (d < b) ⊎ (b ≤ d) → clip a b d + 0 ≡ clip a b e
    go (inl before) other = let top : e ≤ a = low before in omega arith
    go (inr after) (inl more) = absurd (true≢false (sym (begun after more)))
    go (inr after) (inr past) = omega arith

module _ (q n slots : ℕ) (share frequency : ℕ → ℕ)
    (uncrossed : (u cycles : ℕ) → sum u frequency < q * cycles → sum (suc u) frequency ≤ q * cycles)
    (whole : sum slots frequency ≡ q * sum n share) where
  -- a slot delivers to job j what it adds within the turn of j
  turn_step : (j u : ℕ) → j < n
      → clip (q * sum j share) (q * sum (suc j) share) (sum u frequency) + only_if (eqb (turn_of q n share (sum u frequency)) j) (frequency u)
      ≡ clip (q * sum j share) (q * sum (suc j) share) (sum (suc u) frequency)
  turn_step j u below =
      clip_step (q * sum j share) (q * sum (suc j) share) (sum u frequency) (sum (suc u) frequency) (frequency u)
      (eqb (turn_of q n share (sum u frequency)) j)
      (turns_rise q share j (suc j) (omega arith)) (unfold sum in refl)
      (uncrossed u (sum j share)) (uncrossed u (sum (suc j) share))
      (λ e. turn_begun q share n j (sum u frequency) below (eqb-true _ _ e))
      (λ begun less. eq-eqb _ _ (turn_is q share n j (sum u frequency) below begun less))

  -- each job gets its cycles
  pub turns_serve : (j : ℕ) → j < n → sum slots (λ u. only_if (eqb (turn_of q n share (sum u frequency)) j) (frequency u)) ≡ q * share j
  unfolding sum
  turns_serve j below =
      let a : ℕ = q * sum j share in
      let b : ℕ = q * sum (suc j) share in
      let turn : b ≡ a + q * share j = omega arith in
      let telescope = sum_telescopes slots (λ u. clip a b (sum u frequency)) (λ u. only_if (eqb (turn_of q n share (sum u frequency)) j) (frequency u))
      (λ u h. turn_step j u below) in
      let start : clip a b (sum 0 frequency) ≡ a = omega arith in
      let end : clip a b (sum slots frequency) ≡ b = rw whole (omega (arith, turns_rise q share (suc j) n below)) in
      omega arith
