-- `smallest::smallest_prices` meets its contract. The loop's invariant: the prices can rise; each turn leaves less room below
-- the last band (proofs/RisePasses.antt). Assumes nothing.
use Prim.Native.Nat.{ℕ}
use mathlib.Core.List.{List}
use Rattle.model.specs.Plans.{shares_in}
use Rattle.workloads.specs.Arrays.{numbers_in, problem_in, workload_with, Holding}
use Rattle.prices.specs.RisingPrices.{room_left, CanPrice, CanRise}
use Rattle.prices.proofs.smallest.smallest_prices.Given as goal

abbrev pub invariant-loop : goal.invariant-loop
invariant-loop l =
    (cycles table : List ℕ) → CanPrice (workload_with cycles l.jobs l.intervals l.bands l.first l.last l.size l.frequency) table l.loads
    → Holding (problem_in (workload_with cycles l.jobs l.intervals l.bands l.first l.last l.size l.frequency)) (shares_in l.jobs table) l.holders
    → CanRise (workload_with cycles l.jobs l.intervals l.bands l.first l.last l.size l.frequency) table l.prices

abbrev pub decreases-loop : goal.decreases-loop
decreases-loop l = room_left l.intervals l.bands (numbers_in l.prices)
