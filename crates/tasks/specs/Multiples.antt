-- The least common multiple of the tasks' periods (document 02, Change 1).
use Rattle.std.specs.Prelude.{ℕ, ◌*◌, ◌%◌, ◌<◌, ◌≤◌, Bool, true, ◌&&◌, List, [], ◌∷◌, length, eqb}
use Rattle.std.specs.Int.{◌∣◌}
use Rattle.model.specs.Search.{first_from}
use Rattle.tasks.specs.declared.Task.{Task}
use Rattle.tasks.specs.Tasks.{task_of, ValidTasks}

-- "29 the multiple is above 1,000,000"
abbrev pub max_multiple : ℕ
max_multiple = 1_000_000

-- Every period divides a number.
unfoldable pub is_common_multiple : List Task → ℕ → Bool
is_common_multiple [] n = true
is_common_multiple (task ∷ tasks) n = eqb (n % task.period) 0 && is_common_multiple tasks n

-- The product of all periods: one number that every period divides.
unfoldable pub period_product : List Task → ℕ
period_product [] = 1
period_product (task ∷ tasks) = task.period * period_product tasks

-- "the least common multiple of the periods (1 for no tasks)": the first of 1, 2, .. that every period divides.
unfoldable pub multiple_of : List Task → ℕ
multiple_of tasks = first_from 1 (period_product tasks) (is_common_multiple tasks)

abbrev pub CommonMultiple : List Task → ℕ → Type 0
CommonMultiple tasks n = (i : ℕ) → i < length tasks → (task_of tasks i).period ∣ n

-- What the least common multiple is, without going through the numbers: every period divides it, and it divides every
-- number that all periods divide; so none of these above 0 is smaller.
pub record LeastCommonMultiple (tasks : List Task) (multiple : ℕ) : Type 0 where
  pub positive : 0 < multiple
  pub common : CommonMultiple tasks multiple
  pub divides : (n : ℕ) → CommonMultiple tasks n → multiple ∣ n
  pub least : (n : ℕ) → 0 < n → CommonMultiple tasks n → multiple ≤ n

-- Proved in proofs/Multiples.antt.
abbrev pub MultipleIsLeast : Type 0
MultipleIsLeast = (tasks : List Task) → ValidTasks tasks → LeastCommonMultiple tasks (multiple_of tasks)
