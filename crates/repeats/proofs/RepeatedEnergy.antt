-- The exact energy of repeats: that of the round for each, and what idling draws between each two.
-- Assumes nothing.
use mathlib.Core.Path.{◌≡◌, ap}
use mathlib.Core.Logic.{inl, inr}
use mathlib.Core.List.{List}
use Prim.Native.Nat.{ℕ, suc, ◌+◌, ◌-◌, ◌*◌, ◌<◌, ◌≤◌, min}
use native.Mathlib.Omega.{arith}
use Rattle.model.specs.declared.Job.{Job}
use Rattle.model.specs.Sum.{sum}
use Rattle.model.specs.Points.{Point}
use Rattle.model.specs.Bands.{band_count, frequency_of, power_at, gap, scale, price}
use Rattle.model.specs.Intervals.{interval_count, bound_at, length_of}
use Rattle.model.specs.Sites.{Site}
use Rattle.model.specs.Plans.{Shares, load}
use Rattle.model.specs.Energy.{band_cycles, interval_energy, exact_energy}
use Rattle.model.proofs.Sum.{sum_cong, sum_zero, sum_const, sum_split, sum_stretches}
use Rattle.repeats.specs.Repeats.{repeat_jobs, round_size, repeat_bounds, repeat_shares}
use Rattle.repeats.proofs.RepeatedBounds.{Repeatable, JoinedOrApart, joined_or_apart, count_repeat_bounds, bound_in, bound_next}
use Rattle.repeats.proofs.RepeatedShares.{length_in, load_in, load_between}

-- without load there is what idling draws
idle-energy : (ws : List Point) (ticks : ℕ) → interval_energy ws ticks 0 ≡ ticks * (power_at ws 0 * scale ws)
unfolding interval_energy band_cycles
idle-energy ws ticks =
    let none : sum (band_count ws) (λ k. min (ticks * gap ws k) (0 - ticks * frequency_of ws k) * price ws k) ≡ 0 =
    sum_zero (band_count ws) (λ k below. let e : min (ticks * gap ws k) (0 - ticks * frequency_of ws k) ≡ 0 = omega arith in rw e (omega arith)) in
    omega arith

module _ (site : Site) {H : ℕ} (R : Repeatable H site.jobs site.bounds) (more : ℕ) (shares : Shares) (ws : List Point) where
  abbrev N : ℕ
  N = interval_count site.bounds

  abbrev P : ℕ
  P = round_size H site.bounds

  abbrev RB : List ℕ
  RB = repeat_bounds H site.bounds (suc more)

  abbrev RJ : List Job
  RJ = repeat_jobs H (suc more) site.jobs

  -- interval t of all repeats
  abbrev term : ℕ → ℕ
  term t = interval_energy ws (length_of RB t) (load RJ (repeat_shares H site shares) t)

  abbrev round : ℕ
  round = sum N (λ i. interval_energy ws (length_of site.bounds i) (load site.jobs shares i))

  round_at : (k : ℕ) → k ≤ more → sum N (λ i. term (k * P + i)) ≡ round
  round_at k row = sum_cong N (λ i column. rw (length_in site R more k i row column, load_in site R more shares k i row column))

  module _ (between : ℕ) (reaches : bound_at site.bounds (interval_count site.bounds) + between ≡ H + bound_at site.bounds 0) where
    abbrev idle : ℕ
    idle = between * (power_at ws 0 * scale ws)

    length_between : (k : ℕ) → k < more → P ≡ suc N → length_of RB (k * P + N) ≡ between
    unfolding length_of
    length_between k row size = rw (bound_in R more k N (omega arith) (omega arith), bound_next R more k row size) (omega (arith, R.apart))

    -- a repeat up to the start of the next
    row_energy : (k : ℕ) → k < more → sum P (λ i. term (k * P + i)) ≡ round + idle
    unfolding sum
    row_energy k row = go (joined_or_apart R)
      where
        go : JoinedOrApart R → sum P (λ i. term (k * P + i)) ≡ round + idle
        go (inl joined) =
            let nothing : between ≡ 0 = omega (arith, joined.1) in
            let shorter : sum P (λ i. term (k * P + i)) ≡ sum N (λ i. term (k * P + i)) = ap (λ (x : ℕ). sum x (λ i. term (k * P + i))) joined.0 in
            let free : idle ≡ 0 = rw nothing (omega arith) in
            omega (arith, round_at k (omega arith))
        go (inr apart) =
            let longer : sum P (λ i. term (k * P + i)) ≡ sum (suc N) (λ i. term (k * P + i)) = ap (λ (x : ℕ). sum x (λ i. term (k * P + i))) apart.0 in
            let last : term (k * P + N) ≡ idle =
            rw (load_between site R more shares k apart.0, length_between k row apart.0) (idle-energy ws between) in
            omega (arith, round_at k (omega arith))

    pub energy_repeats : exact_energy ws (repeat_jobs H (suc more) site.jobs) (repeat_bounds H site.bounds (suc more)) (repeat_shares H site shares)
        ≡ suc more * exact_energy ws site.jobs site.bounds shares + more * (between * (power_at ws 0 * scale ws))
    unfolding exact_energy
    energy_repeats =
        let rows : sum more (λ k. sum P (λ i. term (k * P + i))) ≡ sum (more * P) term =
        sum_stretches more (λ k. k * P) term (omega arith) (λ k. P) (λ k below. omega arith) in
        let each : sum more (λ k. sum P (λ i. term (k * P + i))) ≡ sum more (λ k. round + idle) = sum_cong more row_energy in
        rw (count_repeat_bounds R more)
        (omega (arith, sum_split (more * P) N term, sum_const more (round + idle), round_at more (omega arith)))
