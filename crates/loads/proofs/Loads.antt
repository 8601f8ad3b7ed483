-- Laws of loads. A range of intervals holds the jobs inside it, whatever the plan. And whether each job runs at the least price of its
-- window alone can be told from the loads: shares with the same loads fit the same prices.
-- Assumes nothing.
use mathlib.Core.Path.{◌≡◌, refl, sym, ◌∙◌, ap}
use mathlib.Core.Bool.{Bool, true, false, ◌&&◌, cond}
use mathlib.Core.Logic.{◌⊎◌, inl, inr}
use Prim.Native.Nat.{ℕ, zero, suc, ◌+◌, ◌*◌, ◌<◌, ◌≤◌}
use native.Mathlib.Nat.{eq-zero-or-pos, eq-or-lt_of_le, le_of_suc-le-suc, mul-le-mul_right, mul-lt-mul_of_pos_right}
use native.Mathlib.Omega.{arith}
use lib.Dec.{leb, ltb, eqb}
use borrow.Author.Tests.{le-leb, leb-true, lt-ltb, ltb-true, eq-eqb, ne_eqb}
use Rattle.model.specs.Sum.{sum, only_if}
use Rattle.model.specs.Plans.{Shares}
use Rattle.model.proofs.Numbers.{lt_or_le, both_true}
use Rattle.model.proofs.Search.{least_index}
use Rattle.model.proofs.Sum.{sum_cong, sum_mono, sum_strict, sum_swap, sum_mul_left, sum_zero, sum_shorter, sum_longer, sum_add}
use Rattle.workloads.specs.Placement.{Problem, SoundProblem, Open, load_of, Priced, Placed}
use Rattle.workloads.specs.RangesFit.{is_within}
use Rattle.loads.specs.Loads.{within, Serving, Fillable, LeastPrices, AtLeast}

module _ {p : Problem} {shares : Shares} (serving : Serving p shares) where
  pub no_share : {i j : ℕ} → i < p.intervals → j < p.jobs → (i < p.first j) ⊎ (p.last j ≤ i) → shares i j ≡ 0
  no_share {i} {j} inside below out = go (eq-zero-or-pos (shares i j)) out
    where
      go : (shares i j ≡ 0) ⊎ (0 < shares i j) → (i < p.first j) ⊎ (p.last j ≤ i) → shares i j ≡ 0
      go (inl none) out = none
      go (inr some) (inl early) = absurd (omega (arith, (serving.shut i j inside below some).from))
      go (inr some) (inr late) = absurd (omega (arith, (serving.shut i j inside below some).to))

  -- up to an interval by which it is due a job has all its cycles
  pub whole_by : (b j : ℕ) → b ≤ p.intervals → j < p.jobs → p.last j ≤ b → sum b (λ i. shares i j) ≡ p.cycles j
  whole_by b j inside below due =
      sym (sum_shorter b p.intervals (λ i. shares i j) inside (λ i past more. no_share more below (inr (omega arith)))) ∙ serving.whole j below

  -- up to an interval before its release it has none
  pub none_by : (b j : ℕ) → b ≤ p.intervals → j < p.jobs → b ≤ p.first j → sum b (λ i. shares i j) ≡ 0
  none_by b j inside below early = sum_zero b (λ i h. no_share (omega arith) below (inl (omega arith)))

  -- the loads up to an interval, job by job
  pub loads_by : (b : ℕ) → sum b (load_of p shares) ≡ sum p.jobs (λ j. sum b (λ i. shares i j))
  loads_by b = sum_swap b p.jobs (λ i j. shares i j)

  -- a job inside a range has all its cycles there
  job_holds : (a b j : ℕ) → a ≤ b → b ≤ p.intervals → j < p.jobs
      → only_if (is_within p a b j) (p.cycles j) + sum a (λ i. shares i j) ≤ sum b (λ i. shares i j)
  job_holds a b j order inside below = go (is_within p a b j) refl
    where
      go : (t : Bool) → is_within p a b j ≡ t → only_if t (p.cycles j) + sum a (λ i. shares i j) ≤ sum b (λ i. shares i j)
      go false e = omega (arith, sum_longer (λ i. shares i j) order)
      go true e =
          let both = both_true _ _ e in
          omega (
            arith,
            none_by a j (omega arith) below (leb-true _ _ both.0),
            whole_by b j inside below (leb-true _ _ both.1),
          )

  pub serving_fills : Fillable p (load_of p shares)
  unfolding within
  serving_fills =
      record {
        holds = λ a b order inside.
            rw (loads_by a, loads_by b)
            (rw (← sum_add p.jobs (λ j. only_if (is_within p a b j) (p.cycles j)) (λ j. sum a (λ i. shares i j)))
            (sum_mono p.jobs (λ j below. job_holds a b j order inside below)));
        total = loads_by p.intervals ∙ sum_cong p.jobs serving.whole;
      }

  -- what is paid, job by job
  paid : (prices : ℕ → ℕ)
      → sum p.intervals (λ i. prices i * load_of p shares i) ≡ sum p.jobs (λ j. sum p.intervals (λ i. prices i * shares i j))
  paid prices =
      sum_cong p.intervals (λ i inside. sym (sum_mul_left p.jobs (prices i) (shares i)))
      ∙ sum_swap p.intervals p.jobs (λ i j. prices i * shares i j)

  owed : (least : ℕ → ℕ)
      → sum p.jobs (λ j. least j * p.cycles j) ≡ sum p.jobs (λ j. sum p.intervals (λ i. least j * shares i j))
  owed least =
      sum_cong p.jobs (λ j below. ap (λ (x : ℕ). least j * x) (sym (serving.whole j below)) ∙ sym (sum_mul_left p.intervals (least j) (λ i. shares i j)))

  pub paid_when_cheapest : (prices least : ℕ → ℕ) → AtLeast p shares prices least
      → sum p.intervals (λ i. prices i * load_of p shares i) ≡ sum p.jobs (λ j. least j * p.cycles j)
  paid_when_cheapest prices least cheap =
      paid prices ∙ sum_cong p.jobs (λ j below. sum_cong p.intervals (λ i inside. same i j inside below (eq-zero-or-pos (shares i j)))) ∙ sym (owed least)
    where
      same : (i j : ℕ) → i < p.intervals → j < p.jobs → (shares i j ≡ 0) ⊎ (0 < shares i j) → prices i * shares i j ≡ least j * shares i j
      same i j inside below (inl none) = rw none (omega arith)
      same i j inside below (inr some) = rw (cheap i j inside below some)

  module _ (prices least : ℕ → ℕ) (low : LeastPrices p prices least) where
    -- a cycle costs no less than the least price
    dearer : (i j : ℕ) → i < p.intervals → j < p.jobs → least j * shares i j ≤ prices i * shares i j
    dearer i j inside below = go (eq-zero-or-pos (shares i j))
      where
        go : (shares i j ≡ 0) ⊎ (0 < shares i j) → least j * shares i j ≤ prices i * shares i j
        go (inl none) = rw none (omega arith)
        go (inr some) = mul-le-mul_right (shares i j) (low.low i j inside below (serving.shut i j inside below some))

    -- no plan pays less
    pub paid_most : sum p.jobs (λ j. least j * p.cycles j) ≤ sum p.intervals (λ i. prices i * load_of p shares i)
    paid_most = rw (paid prices, owed least) (sum_mono p.jobs (λ j below. sum_mono p.intervals (λ i inside. dearer i j inside below)))

    pub cheapest_when_paid : sum p.intervals (λ i. prices i * load_of p shares i) ≡ sum p.jobs (λ j. least j * p.cycles j)
        → AtLeast p shares prices least
    cheapest_when_paid equal i j inside below some = go (lt_or_le (least j) (prices i))
      where
        go : (least j < prices i) ⊎ (prices i ≤ least j) → prices i ≡ least j
        go (inl less) =
            absurd
            (omega (
              arith,
              paid prices,
              owed least,
              sum_strict p.jobs {f = λ j. sum p.intervals (λ i. least j * shares i j)} {g = λ j. sum p.intervals (λ i. prices i * shares i j)} j below
                  (λ j below. sum_mono p.intervals (λ i inside. dearer i j inside below))
                  (sum_strict p.intervals i inside (λ i inside. dearer i j inside below) (mul-lt-mul_of_pos_right less some)),
            ))
        go (inr more) = omega (arith, low.low i j inside below (serving.shut i j inside below some))

-- the same loads as another function
pub fillable_same : {p : Problem} {loads others : ℕ → ℕ} → Fillable p loads → ((i : ℕ) → i < p.intervals → others i ≡ loads i) → Fillable p others
fillable_same {p} {loads} {others} fillable same =
    record {
      holds = λ a b order inside. omega (arith, up_to a (omega arith), up_to b inside, fillable.holds a b order inside);
      total = up_to p.intervals (omega arith) ∙ fillable.total;
    }
  where
    up_to : (b : ℕ) → b ≤ p.intervals → sum b others ≡ sum b loads
    up_to b inside = sum_cong b (λ i h. same i (omega arith))

-- what can be found for each number below n is a function
pub choose : (P : ℕ → ℕ → Type 0) (n : ℕ) → ((j : ℕ) → j < n → (m : ℕ) × P j m) → (f : ℕ → ℕ) × ((j : ℕ) → j < n → P j (f j))
choose P zero found = (λ j. 0, λ j h. absurd (omega arith))
choose P (suc n) found =
    let (f, holds) = choose P n (λ j h. found j (omega arith)) in
    let last = found n (omega arith) in
    (λ j. cond (eqb j n) last.0 (f j), λ j h. go f holds last j (eq-or-lt_of_le (le_of_suc-le-suc h)))
  where
    go : (f : ℕ → ℕ) → ((j : ℕ) → j < n → P j (f j)) → (last : (m : ℕ) × P n m) → (j : ℕ) → (j ≡ n) ⊎ (j < n) → P j (cond (eqb j n) last.0 (f j))
    go f holds last j (inl e) = rw (e, eq-eqb n n refl) last.1
    go f holds last j (inr h) = rw (ne_eqb j n (λ e. omega arith)) (holds j h)

module _ {p : Problem} (sound : SoundProblem p) (prices : ℕ → ℕ) where
  abbrev IsLeast : ℕ → ℕ → Type 0
  IsLeast j m = ((i : ℕ) → i < p.intervals → Open p i j → m ≤ prices i) × ((i : ℕ) × (i < p.intervals) × Open p i j × (prices i ≡ m))

  -- each job has a least price
  least_price : (j : ℕ) → j < p.jobs → (m : ℕ) × IsLeast j m
  least_price j below =
      let window = sound.window j below in
      let within = sound.inside j below in
      let test : ℕ → Bool = λ i. leb (p.first j) i && ltb i (p.last j) in
      let at : test (p.first j) ≡ true = rw (le-leb (p.first j) (p.first j) (omega arith), lt-ltb (p.first j) (p.last j) window) in
      let (k, inside, holds, lowest) = least_index p.intervals prices test (p.first j) (omega arith) at in
      let both = both_true _ _ holds in (
        prices k,
        (
          λ i h o. lowest i h (rw (le-leb (p.first j) i o.from, lt-ltb i (p.last j) o.to)),
          (k, inside, record { from = leb-true _ _ both.0; to = ltb-true _ _ both.1 }, refl),
        ),
      )

  pub least-prices : (least : ℕ → ℕ) × LeastPrices p prices least
  least-prices =
      let (least, holds) = choose IsLeast p.jobs least_price in
      (least, record { low = λ i j inside below o. (holds j below).0 i inside o; met = λ j below. (holds j below).1 })

-- rule 24, both ways
pub cheapest_at_least : {p : Problem} {shares : Shares} {prices least : ℕ → ℕ} → Priced p shares prices → LeastPrices p prices least → AtLeast p shares prices least
cheapest_at_least priced low i j inside below some =
    let (k, within, o, e) = low.met j below in
    omega (arith, low.low i j inside below (priced.shut i j inside below some), priced.cheapest i k j inside within below some o)

-- shares with the same loads fit the same prices
pub same_loads_same_prices : {p : Problem} → SoundProblem p → {one two : Shares} {prices : ℕ → ℕ} → Placed p one prices → Serving p two
    → ((i : ℕ) → i < p.intervals → load_of p two i ≡ load_of p one i) → Placed p two prices
same_loads_same_prices {p} sound {one} {two} {prices} placed serving same =
    let (least, low) = least-prices sound prices in
    let priced = placed.priced in
    let first : Serving p one = record { shut = priced.shut; whole = placed.whole } in
    let sums : sum p.intervals (λ i. prices i * load_of p two i) ≡ sum p.intervals (λ i. prices i * load_of p one i) =
    sum_cong p.intervals (λ i inside. ap (λ (x : ℕ). prices i * x) (same i inside)) in
    let cheap = cheapest_when_paid serving prices least low (sums ∙ paid_when_cheapest first prices least (cheapest_at_least priced low)) in
    record {
      priced =
          record {
            shut = serving.shut;
            band = priced.band;
            low = λ i inside. rw (same i inside) (priced.low i inside);
            high = λ i inside. rw (same i inside) (priced.high i inside);
            cheapest = λ i other j inside within below some o. rw (cheap i j inside below some) (low.low other j within below o);
          };
      whole = serving.whole;
    }
