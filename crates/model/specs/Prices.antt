-- Prices of a plan's intervals, as band numbers (document 01, rules 22 to 24). In document 01 the word price also means
-- a band's price per cycle, which is `price` of Bands; here an interval's price is the number of a band, counted from 1.
use Rattle.std.specs.Prelude.{ℕ, zero, suc, ◌*◌, ◌<◌, ◌≤◌, ◌≡◌, Bool, true, ◌&&◌, ◌||◌, List, length, ltb, leb, eqb}
use Rattle.model.specs.declared.Job.{Job}
use Rattle.model.specs.Jobs.{job_of}
use Rattle.model.specs.Points.{Point}
use Rattle.model.specs.Bands.{band_count, frequency_of}
use Rattle.model.specs.Setting.{band_of}
use Rattle.model.specs.Intervals.{interval_count, length_of, is_open}
use Rattle.model.specs.Plans.{Shares, load}

-- An interval's price, by interval.
abbrev pub PriceList : Type 0
PriceList = (interval : ℕ) → ℕ

-- 22: price not 1 to m.
abbrev pub is_band_number : List Point → (number : ℕ) → Bool
is_band_number ws number = leb 1 number && leb number (band_count ws)

-- 23: price not fitting the load. A load of 0 wants 1; a load strictly inside band k wants k; a load of length × f_k
-- allows k or k + 1, but m at the top.
unfoldable pub fits_load : List Point → (length load : ℕ) → (number : ℕ) → Bool
fits_load ws length zero number = eqb number 1
fits_load ws length (suc cycles) number =
    let load : ℕ = suc cycles in
    let k : ℕ = suc (band_of ws length load) in
    eqb number k || (eqb load (length * frequency_of ws k) && ltb k (band_count ws) && eqb number (suc k))

-- Prices that fit a plan: a band number that fits the load for each interval, and
-- 24: no job that runs in an interval is open in one of smaller price.
pub record FittingPrices (ws : List Point) (jobs : List Job) (bounds : List ℕ) (shares : Shares) (prices : PriceList) : Type 0 where
  pub number : (i : ℕ) → i < interval_count bounds → is_band_number ws (prices i) ≡ true
  pub fits : (i : ℕ) → i < interval_count bounds → fits_load ws (length_of bounds i) (load jobs shares i) (prices i) ≡ true
  pub cheapest : (i other j : ℕ) → i < interval_count bounds → other < interval_count bounds → j < length jobs
      → 0 < shares i j → is_open bounds (job_of jobs j) other ≡ true → prices i ≤ prices other
