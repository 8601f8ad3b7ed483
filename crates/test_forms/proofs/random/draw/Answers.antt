-- `random::draw` meets its contract. The state stays small, and a remainder is below its divisor. Assumes nothing.
use Rattle.std.proofs.Common.{mod-lt, rules}
use Rattle.test_forms.proofs.random.draw.Goals as goal

pub returns : goal.returns
returns c = mod-lt _ (search rules)
