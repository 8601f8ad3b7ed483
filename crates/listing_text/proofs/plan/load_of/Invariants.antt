-- `plan::load_of` meets its contract. The loop's invariant: the load is the sum of the first `j` shares.
-- Assumes nothing.
use mathlib.Core.Path.{◌≡◌}
use Prim.Native.Nat.{◌*◌, ◌≤◌}
use Rattle.model.specs.Sum.{sum}
use Rattle.model.specs.Plans.{shares_in}
use Rattle.listing_text.proofs.plan.load_of.Given as goal

abbrev pub invariant-loop-j : goal.invariant-loop-j
invariant-loop-j l =
    (l.load ≡ sum l.j (shares_in l.jobs l.shares l.interval)) × (l.j ≤ l.jobs) × (l.load ≤ 4_294_967_296 * l.j)
