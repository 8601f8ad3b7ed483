use Rattle.std.proofs.Common.{arith, rules}
use Rattle.test_touching.proofs.site.calls.Goals as goal

pub loop-place-smaller : goal.loop-place-smaller
loop-place-smaller c = omega (arith, c.next.ensures.2 (search rules))
