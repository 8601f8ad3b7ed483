-- What the search for a least common multiple finds: it, or that it is above the limit.
use Rattle.std.specs.Prelude.{ℕ, ◌<◌, ◌≤◌, ◌≡◌, List, Option, Some, None}
use Rattle.std.specs.Int.{◌∣◌}
use Rattle.tasks.specs.declared.Task.{Task}
use Rattle.tasks.specs.Multiples.{max_multiple, multiple_of}

-- A common multiple of two numbers within the limit, and no common multiple is smaller.
pub record LeastCommon (one other found : ℕ) : Type 0 where
  pub positive : 0 < found
  pub small : found ≤ max_multiple
  pub lowest : (n : ℕ) → 0 < n → one ∣ n → other ∣ n → found ≤ n
  pub one_divides : one ∣ found
  pub other_divides : other ∣ found

-- Of two numbers: the least common multiple, or all are above the limit.
abbrev pub CommonFound : (one other : ℕ) → (found : Option ℕ) → Type 0
CommonFound one other None = (n : ℕ) → 0 < n → one ∣ n → other ∣ n → max_multiple < n
CommonFound one other (Some found) = LeastCommon one other found

-- Of all periods of tasks.
abbrev pub MultipleFound : (tasks : List Task) → (found : Option ℕ) → Type 0
MultipleFound tasks None = max_multiple < multiple_of tasks
MultipleFound tasks (Some found) = (found ≤ max_multiple) × (found ≡ multiple_of tasks)
