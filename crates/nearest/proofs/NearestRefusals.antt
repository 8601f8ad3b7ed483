-- The operation refuses by the numbers of the tables and the parameters, and by 14; 11 is a case of its own.
-- Assumes nothing.
use mathlib.Core.Path.{◌≡◌, refl}
use mathlib.Core.Bool.{Bool, true, false, cond}
use mathlib.Core.Logic.{inl, inr}
use mathlib.Core.List.{List}
use mathlib.Core.Option.{Option, none, some}
use Prim.Native.Nat.{ℕ, ◌*◌}
use native.Mathlib.Omega.{arith}
use lib.ListN.{length}
use lib.Dec.{ltb}
use Rattle.model.specs.Outcome.{Outcome, refused, answer, RefusesBy}
use Rattle.model.specs.Processors.{top_of}
use Rattle.model.specs.Sites.{Tables, read_tables, TableNumbers}
use Rattle.model.specs.Windows.{Window, earliest_overfull}
use Rattle.model.proofs.RefusalNumbers.{tables_by}
use Rattle.job_rooms.specs.SetOutcomes.{SetOutcome, refusal, answered, after_tables, unless_found}
use Rattle.nearest.specs.Nearest.{nearest_list, list_fitting, nearest_for, nearest, NearestNumbers, NearestRefuses}

pub nearest_refuses : NearestRefuses
unfolding nearest nearest_for list_fitting
nearest_refuses level_bytes job_bytes parameters room number place = read (read_tables level_bytes job_bytes parameters) (tables_by level_bytes job_bytes parameters)
  where
    same_number : {n p m q : ℕ} → ◌≡◌ {A = SetOutcome (List ℕ)} (refusal n p) (refusal m q) → n ≡ m
    same_number e = cc

    short : (test : Bool) (wanted : ℕ) (list : List ℕ) → cond test (refusal 14 wanted) (answered list) ≡ refusal number place → NearestNumbers number
    short true wanted list e = let same : 14 ≡ number = same_number e in inr (omega arith)
    short false wanted list e = let z : ◌≡◌ {A = ℕ} 0 1 = cc in absurd (omega (arith, z))

    found : (tables : Tables) (window : Option Window)
        → unless_found tables window (list_fitting (top_of tables.processor) tables.jobs room) ≡ refusal number place → NearestNumbers number
    found tables none e = short (ltb room (2 * length tables.jobs)) (2 * length tables.jobs) (nearest_list (top_of tables.processor) tables.jobs) e
    found tables (some window) e = let z : ◌≡◌ {A = ℕ} 0 1 = cc in absurd (omega (arith, z))

    read : (outcome : Outcome Tables) → RefusesBy TableNumbers outcome → after_tables outcome (λ tables. nearest_for tables room) ≡ refusal number place
        → NearestNumbers number
    read (refused n p) by e = let same : n ≡ number = same_number e in inl (rw same at (by n p refl))
    read (answer tables) by e = found tables (earliest_overfull (top_of tables.processor) tables.jobs) e
