-- Jobs in plain arrays before and after they are altered.
use Rattle.std.specs.Prelude.{ℕ, ◌≡◌, List, get_or, Result, Ok}
use Rattle.model.specs.declared.refusal.Refusal.{Refusal}
use Rattle.model.specs.declared.Job.{Job}
use Rattle.model.specs.Limits.{max_jobs}
use Rattle.model.specs.Outcome.{Outcome, answer}
use Rattle.model.specs.Jobs.{ValidJobs}
use Rattle.reading.specs.Column.{column_of}
use Rattle.reading.specs.Tables.{returned_count}
use Rattle.job_tables.specs.Tables.{jobs_in}

-- An array of 64 numbers has zeros past the first `count`.
abbrev pub ZerosPast : (count : ℕ) → (numbers : List ℕ) → Type 0
ZerosPast count numbers = numbers ≡ column_of max_jobs count (λ j. get_or numbers j 0)

-- Valid jobs stand in three arrays, zeros past the last.
pub record ValidArrays (count : ℕ) (releases deadlines cycles : List ℕ) : Type 0 where
  pub valid : ValidJobs (jobs_in count releases deadlines cycles)
  pub deadlines_past : ZerosPast count deadlines
  pub cycles_past : ZerosPast count cycles

-- What altering jobs answers: how many there are or the refusal and, where they are altered, the jobs in the arrays, zeros past the last one's cycles.
pub record AlteredIn (outcome : Outcome (List Job)) (result : Result ℕ Refusal) (releases deadlines cycles : List ℕ) : Type 0 where
  pub told : result ≡ returned_count outcome
  pub held : (n : ℕ) → result ≡ Ok n → outcome ≡ answer (jobs_in n releases deadlines cycles)
  pub cycles_past : (n : ℕ) → result ≡ Ok n → ZerosPast n cycles
