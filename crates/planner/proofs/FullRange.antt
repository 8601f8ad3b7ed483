-- T6, why the band never has to pass the last one. When every reached interval is full at the top frequency, and every job
-- with a share there has its whole window there, then the jobs inside the range fill it, and the one being placed still
-- lacks some cycles: the jobs inside need more than the range holds.
-- Assumes nothing.
use mathlib.Core.Path.{◌≡◌}
use mathlib.Core.Bool.{Bool, true, false}
use mathlib.Core.Logic.{◌⊎◌, inl, inr}
use Prim.Native.Nat.{ℕ, suc, ◌+◌, ◌-◌, ◌*◌, ◌<◌, ◌≤◌}
use native.Mathlib.Nat.{eq-zero-or-pos, eq-or-lt_of_le}
use native.Mathlib.Omega.{arith}
use borrow.Author.Tests.{le-leb}
use Rattle.model.specs.Sum.{sum, only_if}
use Rattle.model.specs.Plans.{Shares}
use Rattle.model.proofs.Sum.{sum_mono, sum_strict, sum_swap, sum_mul_right, sum_split, sum_pos}
use Rattle.workloads.specs.Placement.{Problem, SoundProblem, load_of, placed_of}
use Rattle.workloads.specs.RangesFit.{is_within, RangesFit}
use Rattle.searching.specs.Reached.{Closed}
use Rattle.paths.specs.Placing.{Placing}
use Rattle.paths.proofs.Placing.{placed_most}
use Rattle.planner.proofs.ClosedRange.{window_closed}

-- part of a sum
sum_part : (n start end : ℕ) (f : ℕ → ℕ) → start ≤ end → end ≤ n → sum (end - start) (λ d. f (start + d)) ≤ sum n f
sum_part n start end f order inside =
    let e : n ≡ start + ((end - start) + (n - end)) = omega arith in
    rw e (omega (arith, sum_split start ((end - start) + (n - end)) f, sum_split (end - start) (n - end) (λ d. f (start + d))))

only_if_most : (t : Bool) (n m : ℕ) → n ≤ m → only_if t n ≤ only_if t m
only_if_most true n m order = order
only_if_most false n m order = omega arith

module _ {p : Problem} (sound : SoundProblem p) {shares : Shares} {prices lefts : ℕ → ℕ} {job left band start end : ℕ}
    (placing : Placing p shares prices lefts job left band) (closed : Closed p shares job band start end) where
  pub range_order : start ≤ end
  range_order =
      omega (
        arith,
        closed.now.from_start 0 closed.now.some,
        closed.now.to_end 0 closed.now.some,
        sound.window (closed.reached 0) (closed.now.job_below 0 closed.now.some),
      )

  -- what a job has in the range, all of it if anything
  part : (j : ℕ) → j < p.jobs → sum (end - start) (λ d. shares (start + d) j) ≤ only_if (is_within p start end j) (placed_of p shares j)
  part j below = go (eq-zero-or-pos (sum (end - start) (λ d. shares (start + d) j)))
    where
      go : (sum (end - start) (λ d. shares (start + d) j) ≡ 0) ⊎ (0 < sum (end - start) (λ d. shares (start + d) j))
          → sum (end - start) (λ d. shares (start + d) j) ≤ only_if (is_within p start end j) (placed_of p shares j)
      go (inl nothing) = omega arith
      go (inr something) =
          let (d, inside, share) = sum_pos (end - start) (λ d. shares (start + d) j) something in
          let (from, to) = window_closed closed {i = start + d} (omega arith) (omega arith) below share in
          rw (le-leb start (p.first j) from, le-leb (p.last j) end to) (sum_part p.intervals start end (λ i. shares i j) range_order closed.now.end_below)

  -- the jobs inside have what the range holds, and the one being placed lacks some
  pub range_overfull : 0 < left → suc band ≡ p.bands
      → sum (end - start) (λ d. p.size (start + d)) * p.frequency p.bands
      < sum p.jobs (λ j. only_if (is_within p start end j) (p.cycles j))
  range_overfull lacks top =
      let full : sum (end - start) (λ d. p.size (start + d) * p.frequency p.bands) ≤ sum (end - start) (λ d. load_of p shares (start + d)) =
      sum_mono (end - start) (λ d inside. rw (← top) (closed.scanned (start + d) (omega arith) (omega arith)).full) in
      let parts : sum p.jobs (λ j. sum (end - start) (λ d. shares (start + d) j)) ≤ sum p.jobs (λ j. only_if (is_within p start end j) (placed_of p shares j)) =
      sum_mono p.jobs part in
      let own : is_within p start end job ≡ true =
      rw (le-leb start (p.first job) (rw closed.now.origin at (closed.now.from_start 0 closed.now.some)), le-leb (p.last job) end (rw closed.now.origin at (closed.now.to_end 0 closed.now.some))) in
      let needs : sum p.jobs (λ j. only_if (is_within p start end j) (placed_of p shares j)) < sum p.jobs (λ j. only_if (is_within p start end j) (p.cycles j)) =
      sum_strict p.jobs job placing.job_below (λ j below. only_if_most (is_within p start end j) _ _ (placed_most placing j below)) (rw own (omega (arith, placing.here))) in
      omega (
        arith,
        sum_mul_right (end - start) (p.frequency p.bands) (λ d. p.size (start + d)),
        sum_swap (end - start) p.jobs (λ d j. shares (start + d) j),
      )

  -- so where no range is overfull there is a next band
  pub next_band : RangesFit p → 0 < left → suc band < p.bands
  next_band fit lacks = go (eq-or-lt_of_le placing.band_below)
    where
      go : (suc band ≡ p.bands) ⊎ (suc band < p.bands) → suc band < p.bands
      go (inl top) = absurd (omega (arith, range_overfull lacks top, fit start end range_order closed.now.end_below))
      go (inr more) = more
