-- `mixes::least_mix` meets its contract. The loop's invariant: the least energy so far is small. Assumes nothing.
use Rattle.test_search.specs.Sizes.{SmallEnergy}
use Rattle.test_search.proofs.mixes.least_mix.Given as goal

abbrev pub invariant-loop-low : goal.invariant-loop-low
invariant-loop-low l = SmallEnergy l.least.numerator l.least.denominator
