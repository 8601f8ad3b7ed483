-- `altered_jobs::alter_each` meets its contract. The loop's invariant is `Altering`; what the arrays hold between two jobs and in the end is
-- in proofs/AlteredJobs.antt. Assumes nothing.
use mathlib.Core.Path.{◌≡◌}
use mathlib.Core.List.{List}
use Prim.Native.Nat.{ℕ, ◌<◌, ◌≤◌}
use lib.ListN.{get_or}
use Rattle.model.specs.Limits.{max_jobs}
use Rattle.model.specs.SiteParameters.{altered_fault}
use Rattle.reading.specs.Column.{column_of}
use Rattle.parameters.proofs.AlteredJobs.{first_then}
use Rattle.parameters.proofs.AlteredJobs.{altered_at}
use Rattle.parameters.proofs.altered_jobs.alter_each.Given as goal

-- Up to job j no job has a fault, and the arrays hold the altered jobs; from there on they are as they were.
pub record Altering (releases deadlines₀ cycles₀ : List ℕ) (count free margin : ℕ) (deadlines cycles : List ℕ) (j : ℕ) : Type 0 where
  pub upto : j ≤ count
  pub sound : (k : ℕ) → k < j → altered_fault (altered_at count free margin releases deadlines₀ cycles₀ k) ≡ 0
  pub deadlines-are : deadlines
      ≡ column_of max_jobs count (first_then j (λ k. (altered_at count free margin releases deadlines₀ cycles₀ k).deadline) (λ k. get_or deadlines₀ k 0))
  pub cycles_are : cycles
      ≡ column_of max_jobs count (first_then j (λ k. (altered_at count free margin releases deadlines₀ cycles₀ k).cycles) (λ k. get_or cycles₀ k 0))

abbrev pub invariant-loop-j : goal.invariant-loop-j
invariant-loop-j l = Altering l.releases l.initial.deadlines l.initial.cycles l.count l.free l.margin l.deadlines l.cycles l.j
