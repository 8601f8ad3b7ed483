-- `band_total` meets its contract. The loop's invariant: the total is the sum of the band's cycles in the intervals passed
-- (proofs/HeldBounds.antt). Assumes nothing.
use mathlib.Core.Path.{◌≡◌}
use Prim.Native.Nat.{◌-◌, ◌≤◌}
use lib.ListN.{take}
use Rattle.model.specs.Sum.{sum}
use Rattle.energy.specs.Figures.{cycles_in}
use Rattle.energy.proofs.band_total.Given as goal

abbrev pub invariant-loop-i : goal.invariant-loop-i
invariant-loop-i l =
    (l.i ≤ l.bounds - 1) × (l.total ≡ sum l.i (cycles_in (take l.bounds l.times) l.loads l.lower l.gap))
