-- `smallest::least_band` meets its contract. The loop's invariant: every band passed ends below the load. Assumes nothing.
use Prim.Native.Nat.{ℕ, suc, ◌*◌, ◌<◌, ◌≤◌}
use Rattle.workloads.specs.Arrays.{numbers_in}
use Rattle.prices.proofs.smallest.least_band.Given as goal

abbrev pub invariant-loop-band : goal.invariant-loop-band
invariant-loop-band l = (l.band ≤ l.bands) × ((k : ℕ) → k < l.band → l.size * numbers_in l.frequency (suc k) < l.load)
