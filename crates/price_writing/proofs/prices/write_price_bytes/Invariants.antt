-- `prices::write_price_bytes` meets its contract. The loop's invariant: the first `i` prices are written
-- (proofs/NumberStores.antt). Assumes nothing.
use mathlib.Core.Path.{◌≡◌}
use Prim.Native.Nat.{suc, ◌+◌, ◌*◌, ◌≤◌}
use lib.ListN.{get_or}
use lib.Seq.{sets}
use Rattle.price_writing.specs.PriceListBytes.{price_bytes}
use Rattle.price_writing.proofs.prices.write_price_bytes.Given as goal

abbrev pub invariant-loop-i : goal.invariant-loop-i
invariant-loop-i l = (l.i ≤ l.intervals) × (l.out ≡ sets l.initial.out (2 + 4 * l.intervals) (price_bytes l.i (λ k. suc (get_or l.prices k 0))))
