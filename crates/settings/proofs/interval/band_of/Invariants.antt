-- `interval::band_of` meets its contract. The loop's invariant: the upper ends of the bands below `k`, over the length, are
-- below the load (proofs/Loads.antt). Assumes nothing.
use Prim.Native.Nat.{ℕ, ◌<◌, ◌≤◌}
use Rattle.settings.proofs.Loads.{Past}
use Rattle.settings.proofs.interval.band_of.Given as goal

abbrev pub invariant-loop-k : goal.invariant-loop-k
invariant-loop-k l = (l.k ≤ l.last) × ((j : ℕ) → j < l.k → Past l.working l.length l.load j)
