-- `effects::effects_of` meets its contract. The loop's invariant: neither count is above that of the sites. Assumes nothing.
use Rattle.std.proofs.Common.{◌≤◌}
use Rattle.test_sites.proofs.effects.effects_of.Given as goal

abbrev pub invariant-loop : goal.invariant-loop
invariant-loop l = (l.cut ≤ l.counter) × (l.same ≤ l.counter)
