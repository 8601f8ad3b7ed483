-- `steps::decode_step` meets its contract. It rests on `number16` and `number32`; a number of four bytes is below 2 ^ 32.
-- Assumes nothing.
use mathlib.Core.Path.{◌≡◌}
use Prim.Native.Nat.{ℕ, ◌+◌, ◌-◌, ◌*◌, ◌/◌}
use native.Mathlib.Omega.{arith}
use borrow.Author.Rules.{rules}
use Rattle.model.specs.Steps.{step_at}
use Rattle.model.proofs.Bytes.{number_at_small}
use Rattle.walking.proofs.steps.decode_step.Goals as goal

-- the number of steps, from the length of a plan
steps-by-length : (n k : ℕ) → n ≡ 4 + 6 * k → (n - 4) / 6 ≡ k
steps-by-length n k e = omega arith

pub returns : goal.returns
unfolding step_at
returns c = (
  rw (c.number16-cell.ensures.0, c.number32.ensures, steps-by-length _ _ c.requires.0),
  omega arith,
  omega arith,
  rw c.number32.ensures (number_at_small 4 _ _ (λ place. search rules)),
)
