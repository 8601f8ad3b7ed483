-- T7: the reported figure of a plan's energy is at most the exact energy and less than the number of bands below it.
-- Assumes nothing.
use mathlib.Core.Path.{◌≡◌, ap}
use mathlib.Core.List.{List}
use Prim.Native.Nat.{ℕ, ◌+◌, ◌*◌, ◌/◌, ◌<◌, ◌≤◌}
use native.Mathlib.Nat.{div-mul-le_self, lt-div-mul-add}
use native.Mathlib.Nat.{mul-le-mul_left, mul-lt-mul_of_pos_left, le_of_mul-le-mul_right, lt_of_mul-lt-mul_right}
use native.Mathlib.Omega.{arith}
use Rattle.model.specs.declared.Job.{Job}
use Rattle.model.specs.Sum.{sum}
use Rattle.model.specs.Points.{Point}
use Rattle.model.specs.Bands.{band_count, power_at, gap, rise, scale, price, Curve}
use Rattle.model.specs.Intervals.{interval_count, length_of}
use Rattle.model.specs.Plans.{Shares, load}
use Rattle.model.specs.Energy.{band_cycles, interval_energy, exact_energy, band_total, energy_figure}
use Rattle.model.proofs.Sum.{sum_cong, sum_mono, sum_strict, sum_add, sum_mul_left, sum_mul_right, sum_const, sum_swap}
use Rattle.model.proofs.Bands.{price_gap, gap_positive, scale_positive}

-- one band: rounding total × rise / gap down loses less than one
band_rounds : {ws : List Point} → Curve ws → (total k : ℕ) → k < band_count ws
    → (scale ws * (total * rise ws k / gap ws k) ≤ total * price ws k)
    × (total * price ws k < scale ws * (total * rise ws k / gap ws k) + scale ws)
band_rounds {ws} curve total k below =
    let positive = gap_positive ws curve k below in
    let priced = ap (λ (x : ℕ). total * x) (price_gap ws k below) in
    let low = mul-le-mul_left (scale ws) (div-mul-le_self (total * rise ws k) (gap ws k)) in
    let high = mul-lt-mul_of_pos_left (lt-div-mul-add {a = total * rise ws k} positive) (scale_positive ws curve) in
    (le_of_mul-le-mul_right {k = gap ws k} (omega arith) positive, lt_of_mul-lt-mul_right (gap ws k) (omega arith))

-- the exact energy, summed by bands
exact_by_bands : (ws : List Point) (jobs : List Job) (bounds : List ℕ) (shares : Shares)
    → exact_energy ws jobs bounds shares
    ≡ sum (band_count ws) (λ k. band_total ws jobs bounds shares k * price ws k)
    + scale ws * sum (interval_count bounds) (λ i. length_of bounds i * power_at ws 0)
unfolding exact_energy interval_energy band_total
exact_by_bands ws jobs bounds shares =
    let n : ℕ = interval_count bounds in
    let m : ℕ = band_count ws in
    let cycles : ℕ → ℕ → ℕ = λ i k. band_cycles ws (length_of bounds i) (load jobs shares i) k in
    let cost : ℕ → ℕ → ℕ = λ i k. cycles i k * price ws k in
    let total : ℕ → ℕ = λ k. sum n (λ i. cycles i k) in
    let idling : ℕ → ℕ = λ i. length_of bounds i * (power_at ws 0 * scale ws) in
    let drawn : ℕ → ℕ = λ i. length_of bounds i * power_at ws 0 in
    let priced : (k : ℕ) → sum n (λ i. cost i k) ≡ total k * price ws k = λ k. sum_mul_right n (price ws k) (λ i. cycles i k) in
    let banded : sum m (λ k. sum n (λ i. cost i k)) ≡ sum m (λ k. total k * price ws k) = sum_cong m (λ k h. priced k) in
    let scaled : sum n idling ≡ sum n (λ i. scale ws * drawn i) = sum_cong n (λ i h. omega arith) in
    omega (arith, sum_add n (λ i. sum m (cost i)) idling, sum_swap n m cost, sum_mul_left n (scale ws) drawn)

pub figure_near_exact : {ws : List Point} → Curve ws → (jobs : List Job) (bounds : List ℕ) (shares : Shares)
    → (scale ws * energy_figure ws jobs bounds shares ≤ exact_energy ws jobs bounds shares)
    × (exact_energy ws jobs bounds shares < scale ws * (energy_figure ws jobs bounds shares + band_count ws))
unfolding energy_figure
figure_near_exact {ws} curve jobs bounds shares =
    let m : ℕ = band_count ws in
    let s : ℕ = scale ws in
    let total : ℕ → ℕ = band_total ws jobs bounds shares in
    let part : ℕ → ℕ = λ k. total k * rise ws k / gap ws k in
    let cost : ℕ → ℕ = λ k. total k * price ws k in
    let band : 0 < m = omega (arith, curve.some) in
    let near : (k : ℕ) → k < m → cost k < s * part k + s = λ k h. (band_rounds curve (total k) k h).1 in
    let low : sum m (λ k. s * part k) ≤ sum m cost = sum_mono m (λ k h. (band_rounds curve (total k) k h).0) in
    let high : sum m cost < sum m (λ k. s * part k + s) = sum_strict m 0 band (λ k h. omega (arith, near k h)) (near 0 band) in
    let exact = exact_by_bands ws jobs bounds shares in
    let scaled = sum_mul_left m s part in
    (omega arith, omega (arith, sum_add m (λ k. s * part k) (λ k. s), sum_const m s))
