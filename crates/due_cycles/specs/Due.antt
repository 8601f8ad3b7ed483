-- What is due at a bound.
use Rattle.std.specs.Prelude.{ℕ, eqb}
use Rattle.model.specs.Sum.{sum, only_if}

-- The cycles of the first `jobs` jobs whose deadline is a bound, by the bound's number.
unfoldable pub due_at : (jobs : ℕ) → (last cycles : ℕ → ℕ) → (bound : ℕ) → ℕ
due_at jobs last cycles b = sum jobs (λ j. only_if (eqb (last j) b) (cycles j))
