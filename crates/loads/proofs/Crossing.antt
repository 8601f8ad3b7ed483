-- Laws of what must cross each bound: at the start, at one cell, at the end of an interval, and at the end.
-- Assumes nothing.
use mathlib.Core.Path.{◌≡◌, refl, sym, ◌∙◌}
use mathlib.Core.Bool.{Bool, true, false, ◌&&◌}
use mathlib.Core.Logic.{◌⊎◌, inl, inr}
use Prim.Native.Nat.{ℕ, suc, ◌+◌, ◌-◌, ◌*◌, ◌<◌, ◌≤◌}
use native.Mathlib.Nat.{eq-zero-or-pos, eq-or-lt_of_le, le_of_suc-le-suc}
use native.Mathlib.Decide.{ℕ_discrete}
use native.Mathlib.Omega.{arith}
use lib.Dec.{leb, ltb, eqb}
use borrow.Author.Tests.{le-leb, lt-leb, leb-true, lt-ltb, le-ltb, ltb-true, eq-eqb, ne_eqb, eqb-true}
use Rattle.model.specs.Sum.{sum, only_if}
use Rattle.model.proofs.Numbers.{lt_or_le, both_true, true≢false}
use Rattle.model.proofs.Search.{first_or_none}
use Rattle.model.proofs.Sum.{sum_cong, sum_mono, sum_strict, sum_const, sum_term, sum_update}
use Rattle.model.proofs.SumMore.{only_if_le}
use Rattle.workloads.specs.Placement.{Problem, SoundProblem, Open}
use Rattle.loads.specs.Loads.{within, Fillable}
use Rattle.loads.specs.Crossing.{zero_count, due_by, Takes, Crossing}

zero_mono : (a b : ℕ) → b ≤ a → only_if (eqb a 0) 1 ≤ only_if (eqb b 0) 1
zero_mono a b less = go (eq-zero-or-pos a)
  where
    go : (a ≡ 0) ⊎ (0 < a) → only_if (eqb a 0) 1 ≤ only_if (eqb b 0) 1
    go (inl none) = rw (eq-eqb b 0 (omega arith)) (only_if_le (eqb a 0) 1)
    go (inr some) = rw (ne_eqb a 0 (λ e. omega arith)) (omega arith)

zeros_mono : (n : ℕ) (f g : ℕ → ℕ) → ((k : ℕ) → k < n → g k ≤ f k) → zero_count n f ≤ zero_count n g
unfolding zero_count
zeros_mono n f g less = sum_mono n (λ k h. zero_mono (f k) (g k) (less k h))

zeros_more : (n : ℕ) (f g : ℕ → ℕ) (k : ℕ) → k < n → ((k : ℕ) → k < n → g k ≤ f k) → 0 < f k → g k ≡ 0 → zero_count n f < zero_count n g
unfolding zero_count
zeros_more n f g k below less some none =
    sum_strict n k below (λ k h. zero_mono (f k) (g k) (less k h)) (rw (ne_eqb (f k) 0 (λ e. omega arith), eq-eqb (g k) 0 none) (omega arith))

zeros_most : (n : ℕ) (f : ℕ → ℕ) → zero_count n f ≤ n
unfolding zero_count
zeros_most n f =
    let all : sum n (λ k. 1) ≡ n * 1 = sum_const n 1 in
    let most : sum n (λ k. only_if (eqb (f k) 0) 1) ≤ sum n (λ k. 1) = sum_mono n (λ k h. only_if_le (eqb (f k) 0) 1) in
    omega arith

zeros_some : (n : ℕ) (f : ℕ → ℕ) (k : ℕ) → k < n → f k ≡ 0 → 1 ≤ zero_count n f
unfolding zero_count
zeros_some n f k below none =
    let term = sum_term n (λ k. only_if (eqb (f k) 0) 1) k below in
    rw (eq-eqb (f k) 0 none) at term

-- the start
due_within : (p : Problem) (b : ℕ) → due_by p p.cycles b ≡ within p 0 b
unfolding due_by within
due_within p b = sum_cong p.jobs (λ j below. rw (le-leb 0 (p.first j) (omega arith)))

-- the crosses at the start are not below 0
pub cross_starts : {p : Problem} {loads : ℕ → ℕ} → Fillable p loads → (b : ℕ) → b ≤ p.intervals → due_by p p.cycles b ≤ sum b loads
cross_starts {p} fillable b inside = rw (due_within p b) (omega (arith, fillable.holds 0 b (omega arith) inside))

pub due_all : (p : Problem) → SoundProblem p → (f : ℕ → ℕ) → due_by p f p.intervals ≡ sum p.jobs f
unfolding due_by
due_all p sound f = sum_cong p.jobs (λ j below. rw (le-leb (p.last j) p.intervals (sound.inside j below)))

pub fill_starts : {p : Problem} → SoundProblem p → {loads : ℕ → ℕ} → Fillable p loads → (cross : ℕ → ℕ)
    → ((b : ℕ) → b ≤ p.intervals → cross b + due_by p p.cycles b ≡ sum b loads) → Crossing p loads p.cycles cross 0 0 0 0
unfolding sum
fill_starts {p} sound {loads} fillable cross starts =
    let none : cross 0 ≡ 0 = omega (arith, starts 0 (omega arith)) in
    record {
      balance = λ b after inside. omega (arith, starts b inside);
      first = none;
      last = omega (arith, starts p.intervals (omega arith), due_all p sound p.cycles, fillable.total);
      ended = λ q below due. absurd (omega (arith, sound.window q below));
      later = λ q below early. refl;
      passed = λ q below. absurd (omega arith);
      few = omega arith;
    }

-- what is left of the jobs, and what must cross the bounds, only falls
module _ {i j d amount : ℕ} {left cross left_after cross-after : ℕ → ℕ} (takes : Takes i j d amount left cross left_after cross-after) where
  pub left_falls : (q : ℕ) → left_after q ≤ left q
  left_falls q = go (ℕ_discrete q j)
    where
      go : Dec (q ≡ j) → left_after q ≤ left q
      go (yes e) = rw e (omega (arith, takes.here))
      go (no other) = omega (arith, takes.others q other)

  pub cross_falls : (b : ℕ) → cross-after b ≤ cross b
  cross_falls b = go (lt_or_le i b) (lt_or_le b d)
    where
      go : (i < b) ⊎ (b ≤ i) → (b < d) ⊎ (d ≤ b) → cross-after b ≤ cross b
      go (inl after) (inl before) = omega (arith, takes.lowered.inside b after before)
      go (inr early) order = omega (arith, takes.lowered.outside b (inl early))
      go (inl after) (inr late) = omega (arith, takes.lowered.outside b (inr late))

-- a cell
module _ (p : Problem) {left cross left_after cross-after : ℕ → ℕ} {i j amount : ℕ} (below : j < p.jobs) (takes : Takes i j (p.last j) amount left cross left_after cross-after) where
  due_taken : (b : ℕ) → due_by p left b ≡ due_by p left_after b + only_if (leb (p.last j) b) amount
  unfolding due_by
  due_taken b =
      sum_update p.jobs (λ q. only_if (leb (p.last q) b) (left_after q)) (λ q. only_if (leb (p.last q) b) (left q)) j (only_if (leb (p.last j) b) amount)
      below (own (leb (p.last j) b)) (λ q h other. rw (takes.others q other))
    where
      own : (t : Bool) → only_if t (left j) ≡ only_if t (left_after j) + only_if t amount
      own true = sym takes.here
      own false = refl

  -- a job finishes or a cross comes to 0
  steps_grow : p.last j ≤ p.intervals → 0 < amount
      → zero_count p.jobs left + zero_count p.intervals cross < zero_count p.jobs left_after + zero_count p.intervals cross-after
  steps_grow inside some = go takes.most
    where
      less : zero_count p.jobs left ≤ zero_count p.jobs left_after
      less = zeros_mono p.jobs left left_after (λ q h. left_falls takes q)

      fewer : zero_count p.intervals cross ≤ zero_count p.intervals cross-after
      fewer = zeros_mono p.intervals cross cross-after (λ b h. cross_falls takes b)

      go : (left_after j ≡ 0) ⊎ ((b : ℕ) × (i < b) × (b < p.last j) × (cross-after b ≡ 0))
          → zero_count p.jobs left + zero_count p.intervals cross < zero_count p.jobs left_after + zero_count p.intervals cross-after
      go (inl none) = omega (arith, fewer, zeros_more p.jobs left left_after j below (λ q h. left_falls takes q) (omega (arith, takes.here)) none)
      go (inr (b, after, before, none)) =
          omega (
            arith,
            less,
            zeros_more p.intervals cross cross-after b (omega arith) (λ b h. cross_falls takes b) (omega (arith, takes.lowered.inside b after before)) none,
          )

pub fill_takes : {p : Problem} → SoundProblem p → {loads left cross left_after cross-after : ℕ → ℕ} {i j amount placed steps : ℕ}
    → i < p.intervals → j < p.jobs → Open p i j
    → Crossing p loads left cross i j placed steps → Takes i j (p.last j) amount left cross left_after cross-after
    → Crossing p loads left_after cross-after i (suc j) (placed + amount) (steps + only_if (ltb 0 amount) 1)
fill_takes {p} sound {loads} {left} {cross} {left_after} {cross-after} {i} {j} {amount} {placed} {steps} inside below is_open_true now takes =
    record {
      balance = λ b after within. balance b after within (lt_or_le b (p.last j));
      first = takes.lowered.outside 0 (inl (omega arith)) ∙ now.first;
      last = takes.lowered.outside p.intervals (inr (sound.inside j below)) ∙ now.last;
      ended = λ q h due. omega (arith, left_falls takes q, now.ended q h due);
      later = λ q h early. takes.others q (λ e. absurd (early_other q early e)) ∙ now.later q h early;
      passed = λ q h begun more. passed q begun more (eq-or-lt_of_le (le_of_suc-le-suc h));
      few = few (lt_or_le 0 amount);
    }
  where
    early_other : (q : ℕ) → i < p.first q → q ≡ j → ⊥
    early_other q early e = let other : i < p.first j = rw e at early in omega (arith, is_open_true.from)

    balance : (b : ℕ) → i < b → b ≤ p.intervals → (b < p.last j) ⊎ (p.last j ≤ b) → cross-after b + due_by p left_after b + (placed + amount) ≡ sum b loads
    balance b after within (inl before) =
        let due : due_by p left b ≡ due_by p left_after b + 0 = rw (lt-leb (p.last j) b before) at (due_taken p below takes b) in
        omega (arith, now.balance b after within, takes.lowered.inside b after before)
    balance b after within (inr late) =
        let due : due_by p left b ≡ due_by p left_after b + amount = rw (le-leb (p.last j) b late) at (due_taken p below takes b) in
        omega (arith, now.balance b after within, takes.lowered.outside b (inr late))

    tight : (q : ℕ) → q ≡ j → 0 < left_after q → (left_after j ≡ 0) ⊎ ((b : ℕ) × (i < b) × (b < p.last j) × (cross-after b ≡ 0))
        → (b : ℕ) × (i < b) × (b < p.last q) × (cross-after b ≡ 0)
    tight q e more (inl none) = absurd (let some : 0 < left_after j = rw e at more in omega arith)
    tight q e more (inr found) = rw e found

    passed : (q : ℕ) → p.first q ≤ i → 0 < left_after q → (q ≡ j) ⊎ (q < j) → (b : ℕ) × (i < b) × (b < p.last q) × (cross-after b ≡ 0)
    passed q begun more (inl e) = tight q e more takes.most
    passed q begun more (inr h) =
        let (b, after, before, none) = now.passed q h begun (omega (arith, left_falls takes q)) in
        (b, after, before, omega (arith, cross_falls takes b))

    few : (0 < amount) ⊎ (amount ≤ 0) → steps + only_if (ltb 0 amount) 1 ≤ zero_count p.jobs left_after + zero_count p.intervals cross-after - 1
    few (inl some) = rw (lt-ltb 0 amount some) (omega (
      arith,
      now.few,
      zeros_some p.intervals cross 0 (omega arith) now.first,
      steps_grow p below takes (sound.inside j below) some,
    ))
    few (inr none) =
        rw (le-ltb 0 amount none)
        (omega (
          arith,
          now.few,
          zeros_mono p.jobs left left_after (λ q h. left_falls takes q),
          zeros_mono p.intervals cross cross-after (λ b h. cross_falls takes b),
        ))

-- a cell whose job is not open
pub fill_skips : {p : Problem} {loads left cross : ℕ → ℕ} {i j placed steps : ℕ} → j < p.jobs → (Open p i j → ⊥)
    → Crossing p loads left cross i j placed steps → Crossing p loads left cross i (suc j) placed steps
fill_skips {p} {loads} {left} {cross} {i} {j} below shut now =
    record {
      balance = now.balance;
      first = now.first;
      last = now.last;
      ended = now.ended;
      later = now.later;
      passed = λ q h begun more. passed q begun more (eq-or-lt_of_le (le_of_suc-le-suc h));
      few = now.few;
    }
  where
    passed : (q : ℕ) → p.first q ≤ i → 0 < left q → (q ≡ j) ⊎ (q < j) → (b : ℕ) × (i < b) × (b < p.last q) × (cross b ≡ 0)
    passed q begun more (inr h) = now.passed q h begun more
    passed q begun more (inl e) = absurd (go (lt_or_le i (p.last j)))
      where
        from : p.first j ≤ i
        from = rw e at begun

        some : 0 < left j
        some = rw e at more

        go : (i < p.last j) ⊎ (p.last j ≤ i) → ⊥
        go (inl to) = shut (record { from = from; to = to })
        go (inr late) = omega (arith, some, now.ended j below late)

-- the end of an interval's row
module _ {p : Problem} (sound : SoundProblem p) {loads left cross : ℕ → ℕ} (fillable : Fillable p loads) {i placed steps : ℕ} (inside : i < p.intervals)
    (now : Crossing p loads left cross i p.jobs placed steps) where
  -- up to the first cross that is 0 only jobs released later are left
  due_later : (z : ℕ) → ((b : ℕ) → i < b → b < z → cross b ≡ 0 → ⊥) → due_by p left z ≡ within p (suc i) z
  unfolding due_by within
  due_later z none = sum_cong p.jobs (λ q below. each q below (leb (p.last q) z) refl (lt_or_le i (p.first q)))
    where
      finished : (q : ℕ) → q < p.jobs → p.last q ≤ z → p.first q ≤ i → (left q ≡ 0) ⊎ (0 < left q) → left q ≡ 0
      finished q below due begun (inl e) = e
      finished q below due begun (inr more) =
          let (b, after, before, e) = now.passed q below begun more in
          absurd (none b after (omega arith) e)

      each : (q : ℕ) → q < p.jobs → (t : Bool) → leb (p.last q) z ≡ t → (i < p.first q) ⊎ (p.first q ≤ i)
          → only_if t (left q) ≡ only_if (leb (suc i) (p.first q) && t) (p.cycles q)
      each q below t e (inl early) = rw (le-leb (suc i) (p.first q) early, now.later q below early)
      each q below true e (inr begun) =
          rw (lt-leb (suc i) (p.first q) (omega arith), finished q below (leb-true _ _ e) begun (eq-zero-or-pos (left q)))
      each q below false e (inr begun) = rw (lt-leb (suc i) (p.first q) (omega arith))

  -- a row ends with its load placed
  pub row_placed : placed ≡ sum (suc i) loads
  row_placed = go (first_or_none (suc p.intervals) (λ b. ltb i b && eqb (cross b) 0))
    where
      go : ((z : ℕ) × (z < suc p.intervals) × ((k : ℕ) → k < z → (ltb i k && eqb (cross k) 0) ≡ false) × ((ltb i z && eqb (cross z) 0) ≡ true))
          ⊎ ((k : ℕ) → k < suc p.intervals → (ltb i k && eqb (cross k) 0) ≡ false)
          → placed ≡ sum (suc i) loads
      go (inl (z, h, before, here)) =
          let both = both_true _ _ here in
          let after = ltb-true i z both.0 in
          let zero-here = eqb-true (cross z) 0 both.1 in
          let due = due_later z (λ b late early e. true≢false (sym (rw (lt-ltb i b late, eq-eqb (cross b) 0 e)) ∙ before b early)) in
          omega (
            arith,
            now.balance z after (omega arith),
            now.balance (suc i) (omega arith) inside,
            fillable.holds (suc i) z after (omega arith),
          )
      go (inr never) =
          absurd (true≢false (sym (rw (lt-ltb i p.intervals inside, eq-eqb (cross p.intervals) 0 now.last)) ∙ never p.intervals (omega arith)))

  pub row_next : Crossing p loads left cross (suc i) 0 placed steps
  row_next =
      record {
        balance = λ b after within. now.balance b (omega arith) within;
        first = now.first;
        last = now.last;
        ended = λ q below due. ended q below due (eq-zero-or-pos (left q));
        later = λ q below early. now.later q below (omega arith);
        passed = λ q h. absurd (omega arith);
        few = now.few;
      }
    where
      ended : (q : ℕ) → q < p.jobs → p.last q ≤ suc i → (left q ≡ 0) ⊎ (0 < left q) → left q ≡ 0
      ended q below due (inl none) = none
      ended q below due (inr more) =
          let (b, after, before, e) = now.passed q below (omega (arith, sound.window q below)) more in
          absurd (omega arith)

-- at the end nothing is left
pub all_ended : {p : Problem} → SoundProblem p → {loads left cross : ℕ → ℕ} {placed steps : ℕ} → Crossing p loads left cross p.intervals 0 placed steps
    → (q : ℕ) → q < p.jobs → left q ≡ 0
all_ended sound now q below = now.ended q below (sound.inside q below)

-- and the cells with a share are few
pub few_cells : {p : Problem} {loads left cross : ℕ → ℕ} {i count placed steps : ℕ} → Crossing p loads left cross i count placed steps
    → steps ≤ p.jobs + p.intervals - 1
few_cells {p} {loads} {left} {cross} now = omega (arith, now.few, zeros_most p.jobs left, zeros_most p.intervals cross)
