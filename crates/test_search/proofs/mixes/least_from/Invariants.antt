-- `mixes::least_from` meets its contract. The loop's invariant: the least energy so far is small. Assumes nothing.
use Rattle.test_search.specs.Sizes.{SmallEnergy}
use Rattle.test_search.proofs.mixes.least_from.Given as goal

abbrev pub invariant-loop-high : goal.invariant-loop-high
invariant-loop-high l = SmallEnergy l.least.numerator l.least.denominator
