-- The shares and prices of repeats: they give all cycles of all repeats, each in its own window, and the prices fit.
-- Assumes nothing.
use mathlib.Core.Path.{◌≡◌, refl, sym, ◌∙◌, ap}
use mathlib.Core.Bool.{true, false, ◌&&◌}
use mathlib.Core.Logic.{◌⊎◌, inl, inr}
use mathlib.Core.List.{List}
use Prim.Native.Nat.{ℕ, suc, ◌+◌, ◌*◌, ◌<◌, ◌≤◌}
use native.Mathlib.Nat.{mul-le-mul_right}
use native.Mathlib.Omega.{arith}
use lib.ListN.{length}
use lib.Dec.{ltb, leb, eqb}
use borrow.Author.Tests.{lt-ltb, le-ltb, eq-eqb, eqb-true, ltb-true, leb-true, le-leb}
use Rattle.model.specs.declared.Job.{Job}
use Rattle.model.specs.Sum.{sum, only_if}
use Rattle.model.specs.Jobs.{job_of}
use Rattle.model.specs.Points.{Point}
use Rattle.model.specs.Bands.{band_count}
use Rattle.model.specs.Intervals.{interval_count, bound_at, length_of, is_open}
use Rattle.model.specs.Sites.{Site}
use Rattle.model.specs.Plans.{Shares, load, Gives}
use Rattle.model.specs.Prices.{PriceList, is_band_number, fits_load, FittingPrices}
use Rattle.model.proofs.Numbers.{lt_or_le, true_or_false, true≢false, both_true}
use Rattle.model.proofs.Sum.{sum_cong, sum_zero}
use Rattle.model.proofs.Intervals.{is_open_iff, bounds_mono}
use Rattle.repeats.specs.Repeats.{later_by, repeat_jobs, round_size, repeat_bounds, repeat_shares, repeat_prices}
use Rattle.repeats.proofs.Rows.{row_at, column_at, sum_block}
use Rattle.repeats.proofs.RepeatedBounds.{
  length_repeat_jobs,
  Repeatable,
  some_interval,
  size_low,
  release_low,
  deadline_high,
  count_repeat_bounds,
  bound_in,
  bound_after,
  bound_next,
  each_interval,
  each_job,
  job-in,
}

-- Two repeats are the same, or their starts lie at least H apart.
data Order (H : ℕ) : (k l : ℕ) → Type 0 where
  same : {k : ℕ} → Order H k k
  before : {k l : ℕ} → k < l → H + k * H ≤ l * H → Order H k l
  behind : {k l : ℕ} → l < k → H + l * H ≤ k * H → Order H k l

order : (H k l : ℕ) → Order H k l
order H k l = go (lt_or_le k l) (lt_or_le l k)
  where
    go : (k < l) ⊎ (l ≤ k) → (l < k) ⊎ (k ≤ l) → Order H k l
    go (inl less) other = before less (omega (arith, mul-le-mul_right {m = suc k} {n = l} H less))
    go (inr least) (inl more) = behind more (omega (arith, mul-le-mul_right {m = suc l} {n = k} H more))
    go (inr least) (inr most) = let e : l ≡ k = omega arith in rw e same

module _ (site : Site) {H : ℕ} (R : Repeatable H site.jobs site.bounds) (more : ℕ) where
  abbrev jobs : List Job
  jobs = site.jobs

  abbrev bounds : List ℕ
  bounds = site.bounds

  abbrev N : ℕ
  N = interval_count bounds

  abbrev P : ℕ
  P = round_size H bounds

  abbrev n : ℕ
  n = length jobs

  abbrev at : ℕ → ℕ
  at = bound_at bounds

  abbrev RB : List ℕ
  RB = repeat_bounds H bounds (suc more)

  abbrev RJ : List Job
  RJ = repeat_jobs H (suc more) jobs

  -- job j of repeat k is open where it is in its own repeat
  open_forth : (k i j : ℕ) → k ≤ more → i < N → j < n → is_open bounds (job_of jobs j) i ≡ true → is_open RB (job_of RJ (k * n + j)) (k * P + i) ≡ true
  open_forth k i j row column job e =
      let h = (is_open_iff bounds (job_of jobs j) i).0 e in
      (is_open_iff RB (job_of RJ (k * n + j)) (k * P + i)).1 (
        rw (job-in R more k j row job, bound_in R more k i row (omega arith)) (omega (arith, h.0)),
        rw (job-in R more k j row job, bound_after R more k i row column) (omega (arith, h.1)),
      )

  -- and nowhere else
  abbrev OpenThere : (k j t : ℕ) → Type 0
  OpenThere k j t = (i : ℕ) × (i < N) × (t ≡ k * P + i) × (is_open bounds (job_of jobs j) i ≡ true)

  open_back : (k j : ℕ) → k ≤ more → j < n → (t : ℕ) → t < interval_count RB → is_open RB (job_of RJ (k * n + j)) t ≡ true → OpenThere k j t
  open_back k j row job =
      each_interval R more (λ t. is_open RB (job_of RJ (k * n + j)) t ≡ true → OpenThere k j t)
      (λ l i row-l column e.
      let h = (is_open_iff RB (job_of RJ (k * n + j)) (l * P + i)).0 e in
      let low : (later_by (k * H) (job_of jobs j)).release ≤ l * H + at i = rw (job-in R more k j row job, bound_in R more l i row-l (omega arith)) at h.0 in
      let high : l * H + at (suc i) ≤ (later_by (k * H) (job_of jobs j)).deadline = rw (job-in R more k j row job, bound_after R more l i row-l column) at h.1 in
      inside l i column low high (order H k l))
      (λ l row-l size less e.
      let h = (is_open_iff RB (job_of RJ (k * n + j)) (l * P + N)).0 e in
      let low : (later_by (k * H) (job_of jobs j)).release ≤ l * H + at N = rw (job-in R more k j row job, bound_in R more l N (omega arith) (omega arith)) at h.0 in
      let high : suc l * H + at 0 ≤ (later_by (k * H) (job_of jobs j)).deadline = rw (job-in R more k j row job, bound_next R more l row-l size) at h.1 in
      absurd (between l less low high (order H k l)))
    where
      inside : (l i : ℕ) → i < N → k * H + (job_of jobs j).release ≤ l * H + at i → l * H + at (suc i) ≤ k * H + (job_of jobs j).deadline → Order H k l
          → OpenThere k j (l * P + i)
      inside l i column low high same = (i, column, refl, (is_open_iff bounds (job_of jobs j) i).1 (omega arith, omega arith))
      inside l i column low high (before less apart) =
          absurd (omega (arith, deadline_high R j job, R.apart, bounds_mono R.are_bounds 0 i (omega arith) (omega arith), R.are_bounds.rises i (omega arith)))
      inside l i column low high (behind less apart) =
          absurd (omega (arith, release_low R j job, R.apart, R.are_bounds.rises i (omega arith), bounds_mono R.are_bounds (suc i) N column (omega arith)))

      between : (l : ℕ) → at N < H + at 0 → k * H + (job_of jobs j).release ≤ l * H + at N → suc l * H + at 0 ≤ k * H + (job_of jobs j).deadline → Order H k l → ⊥
      between l less low high same = omega (arith, deadline_high R j job)
      between l less low high (before near apart) = omega (arith, deadline_high R j job)
      between l less low high (behind near apart) = omega (arith, release_low R j job)

  pub length_in : (k i : ℕ) → k ≤ more → i < interval_count site.bounds
      → length_of (repeat_bounds H site.bounds (suc more)) (k * round_size H site.bounds + i) ≡ length_of site.bounds i
  unfolding length_of
  length_in k i row column = rw (bound_in R more k i row (omega arith), bound_after R more k i row column) (omega arith)

  module _ (shares : Shares) where
    abbrev RS : Shares
    RS = repeat_shares H site shares

    pub share_in : (k i j : ℕ) → i < interval_count site.bounds → j < length site.jobs
        → repeat_shares H site shares (k * round_size H site.bounds + i) (k * length site.jobs + j) ≡ shares i j
    unfolding repeat_shares
    share_in k i j column job =
        let under : i < P = omega (arith, size_low R) in
        rw (row_at P k i under, column_at P k i under, row_at n k j job, column_at n k j job, eq-eqb k k refl, lt-ltb i N column)

    pub share_other : (k i l j : ℕ) → i < round_size H site.bounds → j < length site.jobs
        → (k ≡ l → i < interval_count site.bounds → ⊥)
        → repeat_shares H site shares (k * round_size H site.bounds + i) (l * length site.jobs + j) ≡ 0
    unfolding repeat_shares
    share_other k i l j under job not_here =
        rw (row_at P k i under, column_at P k i under, row_at n l j job, column_at n l j job) (go (true_or_false (eqb k l)) (true_or_false (ltb i N)))
      where
        go : (eqb k l ≡ true) ⊎ (eqb k l ≡ false) → (ltb i N ≡ true) ⊎ (ltb i N ≡ false) → only_if (eqb k l && ltb i N) (shares i j) ≡ 0
        go (inl row) (inl column) = absurd (not_here (eqb-true k l row) (ltb-true i N column))
        go (inl row) (inr column) = rw (row, column)
        go (inr row) column = rw row

    -- a share stands in an interval of the job's own repeat
    abbrev NoneOrThere : (k j t : ℕ) → Type 0
    NoneOrThere k j t = (RS t (k * n + j) ≡ 0) ⊎ ((i : ℕ) × (i < N) × (t ≡ k * P + i))

    share_there : (k j : ℕ) → k ≤ more → j < n → (t : ℕ) → t < interval_count RB → NoneOrThere k j t
    share_there k j row job =
        each_interval R more (λ t. NoneOrThere k j t)
        (λ l i row-l column. inside l i column (order H k l))
        (λ l row-l size less. inl (share_other l N k j (omega arith) job (λ e h. omega arith)))
      where
        inside : (l i : ℕ) → i < N → Order H k l → NoneOrThere k j (l * P + i)
        inside l i column same = inr (i, column, refl)
        inside l i column (before less apart) = inl (share_other l i k j (omega (arith, size_low R)) job (λ e h. omega arith))
        inside l i column (behind less apart) = inl (share_other l i k j (omega (arith, size_low R)) job (λ e h. omega arith))

    whole_in : (k j : ℕ) → k ≤ more → j < n → sum (interval_count RB) (λ t. RS t (k * n + j)) ≡ sum N (λ i. shares i j)
    whole_in k j row job =
        sum_block (interval_count RB) (k * P) N (λ t. RS t (k * n + j)) (omega (arith, count_repeat_bounds R more, mul-le-mul_right P row))
        (λ t below outside. none t outside (share_there k j row job t below))
        ∙ sum_cong N (λ i below. share_in k i j below job)
      where
        none : (t : ℕ) → (t < k * P) ⊎ (k * P + N ≤ t) → NoneOrThere k j t → RS t (k * n + j) ≡ 0
        none t outside (inl e) = e
        none t (inl early) (inr (i, column, e)) = absurd (omega arith)
        none t (inr late) (inr (i, column, e)) = absurd (omega arith)

    pub load_in : (k i : ℕ) → k ≤ more → i < interval_count site.bounds
        → load (repeat_jobs H (suc more) site.jobs) (repeat_shares H site shares) (k * round_size H site.bounds + i) ≡ load site.jobs shares i
    unfolding load
    load_in k i row column =
        sum_block (length RJ) (k * n) n (RS (k * P + i)) (omega (arith, length_repeat_jobs H (suc more) jobs, mul-le-mul_right n row))
        (each_job R more (λ J. (J < k * n) ⊎ (k * n + n ≤ J) → RS (k * P + i) J ≡ 0)
        (λ l j row-l job outside. share_other k i l j (omega (arith, size_low R)) job (λ e h. never l j job outside e)))
        ∙ sum_cong n (λ j below. share_in k i j column below)
      where
        never : (l j : ℕ) → j < n → (l * n + j < k * n) ⊎ (k * n + n ≤ l * n + j) → k ≡ l → ⊥
        never l j job (inl early) e = omega (arith, ap (λ (x : ℕ). x * n) e)
        never l j job (inr late) e = omega (arith, ap (λ (x : ℕ). x * n) e)

    pub load_between : (k : ℕ) → round_size H site.bounds ≡ suc (interval_count site.bounds)
        → load (repeat_jobs H (suc more) site.jobs) (repeat_shares H site shares) (k * round_size H site.bounds + interval_count site.bounds) ≡ 0
    unfolding load
    load_between k size =
        sum_zero (length RJ) (each_job R more (λ J. RS (k * P + N) J ≡ 0) (λ l j row job. share_other k N l j (omega arith) job (λ e h. omega arith)))

    pub gives_repeat : {top : ℕ} → Gives top site.jobs site.bounds shares
        → Gives top (repeat_jobs H (suc more) site.jobs) (repeat_bounds H site.bounds (suc more)) (repeat_shares H site shares)
    gives_repeat {top} gives =
        record {
          whole = each_job R more (λ J. sum (interval_count RB) (λ t. RS t J) ≡ (job_of RJ J).cycles)
              (λ k j row job. rw (job-in R more k j row job) (whole_in k j row job ∙ gives.whole j job));
          shut = λ t J inside given.
              each_job R more (λ J. is_open RB (job_of RJ J) t ≡ false → RS t J ≡ 0)
              (λ k j row job shut. shut_there k j t row job shut (share_there k j row job t inside)) J given;
          fits = each_interval R more (λ t. load RJ RS t ≤ length_of RB t * top)
              (λ k i row column. rw (load_in k i row column, length_in k i row column) (gives.fits i column))
              (λ k row size less. rw (load_between k size) (omega arith));
        }
      where
        shut_there : (k j t : ℕ) → k ≤ more → j < n → is_open RB (job_of RJ (k * n + j)) t ≡ false → NoneOrThere k j t → RS t (k * n + j) ≡ 0
        shut_there k j t row job shut (inl e) = e
        shut_there k j t row job shut (inr (i, column, e)) = rw (e, share_in k i j column job) (closed (true_or_false (is_open bounds (job_of jobs j) i)))
          where
            closed : (is_open bounds (job_of jobs j) i ≡ true) ⊎ (is_open bounds (job_of jobs j) i ≡ false) → shares i j ≡ 0
            closed (inl is_open_true) = absurd (true≢false (sym (open_forth k i j row column job is_open_true) ∙ (rw e at shut)))
            closed (inr is-shut) = gives.shut i j column job is-shut

    module _ (prices : PriceList) where
      abbrev RP : PriceList
      RP = repeat_prices H bounds prices

      price_in : (k i : ℕ) → i < N → RP (k * P + i) ≡ prices i
      unfolding repeat_prices
      price_in k i column = let under : i < P = omega (arith, size_low R) in rw (column_at P k i under, lt-ltb i N column)

      price_between : (k : ℕ) → P ≡ suc N → RP (k * P + N) ≡ 1
      unfolding repeat_prices
      price_between k size = rw (column_at P k N (omega arith), le-ltb N N (omega arith))

      pub prices_repeat : {ws : List Point} → FittingPrices ws site.jobs site.bounds shares prices
          → FittingPrices ws (repeat_jobs H (suc more) site.jobs) (repeat_bounds H site.bounds (suc more)) (repeat_shares H site shares)
          (repeat_prices H site.bounds prices)
      unfolding fits_load
      prices_repeat {ws} fitting =
          record {
            number = each_interval R more (λ t. is_band_number ws (RP t) ≡ true)
                (λ k i row column. rw (price_in k i column) (fitting.number i column))
                (λ k row size less. rw (price_between k size) one);
            fits = each_interval R more (λ t. fits_load ws (length_of RB t) (load RJ RS t) (RP t) ≡ true)
                (λ k i row column. rw (price_in k i column, load_in k i row column, length_in k i row column) (fitting.fits i column))
                (λ k row size less. rw (price_between k size, load_between k size) refl);
            cheapest = λ t other J inside next given.
                each_job R more (λ J. 0 < RS t J → is_open RB (job_of RJ J) other ≡ true → RP t ≤ RP other)
                (λ k j row job some is_open_true.
                cheaper k j t other job some (share_there k j row job t inside) (open_back k j row job other next is_open_true)) J given;
          }
        where
          one : is_band_number ws 1 ≡ true
          one =
              let h = both_true (leb 1 (prices 0)) (leb (prices 0) (band_count ws)) (fitting.number 0 (some_interval R)) in
              rw (le-leb 1 (band_count ws) (omega (arith, leb-true 1 (prices 0) h.0, leb-true (prices 0) (band_count ws) h.1))) refl

          cheaper : (k j t other : ℕ) → j < n → 0 < RS t (k * n + j) → NoneOrThere k j t → OpenThere k j other → RP t ≤ RP other
          cheaper k j t other job some (inl e) found = absurd (omega arith)
          cheaper k j t other job some (inr (i, column, e)) (o, column-o, e-o, is_open_true) =
              let some-there : 0 < shares i j = rw (e, share_in k i j column job) at some in
              rw (e, e-o, price_in k i column, price_in k o column-o) (fitting.cheapest i o j column column-o job some-there is_open_true)
