-- All levels of the built-in tables work: one computed test over both tables, and a law that turns the test into the rule
-- for each of them.
-- Assumes nothing.
use mathlib.Core.Path.{◌≡◌, refl}
use mathlib.Core.Bool.{Bool, true, not, ◌&&◌}
use mathlib.Core.List.{List, [], ◌∷◌}
use Prim.Native.Nat.{ℕ, zero, suc, ◌<◌}
use native.Mathlib.Nat.{le_of_suc-le-suc}
use native.Mathlib.Omega.{arith}
use lib.Dec.{eqb}
use lib.ListN.{length, get_or}
use borrow.Author.Tests.{eqb-true}
use Rattle.model.specs.declared.Level.{Level}
use Rattle.model.specs.Search.{some_below}
use Rattle.model.specs.Points.{points, drops, dropped, select_from, working}
use Rattle.model.specs.Processors.{all_points, working_of, processor_of}
use Rattle.model.specs.BuiltIn.{first_built_in, second_built_in}
use Rattle.model.proofs.Numbers.{both_true}
use Rattle.model.proofs.Selection.{select_all}

-- a table has as many working points as points
works_all : List Level → Bool
works_all levels = eqb (length (working_of (processor_of levels))) (length (all_points (processor_of levels)))

each_works : List (List Level) → Bool
each_works [] = true
each_works (table ∷ tables) = works_all table && each_works tables

abbrev built_in : List (List Level)
built_in = first_built_in ∷ second_built_in ∷ []

tested : each_works built_in ≡ true
unfolding each_works works_all points working select_from dropped some_below drops
tested = refl

-- so that no level is dropped
nothing_dropped : (levels : List Level) → works_all levels ≡ true → working_of (processor_of levels) ≡ all_points (processor_of levels)
unfolding works_all working
nothing_dropped levels e = let ps = all_points (processor_of levels) in select_all (λ i. not (dropped ps i)) 0 ps (eqb-true _ _ e)

each_whole : (tables : List (List Level)) → each_works tables ≡ true → (i : ℕ) → i < length tables
    → working_of (processor_of (get_or tables i [])) ≡ all_points (processor_of (get_or tables i []))
unfolding each_works
each_whole [] e i below = absurd (omega arith)
each_whole (table ∷ tables) e zero below = nothing_dropped table (both_true (works_all table) _ e).0
each_whole (table ∷ tables) e (suc i) below = each_whole tables (both_true (works_all table) _ e).1 i (le_of_suc-le-suc below)

pub first_works : working_of (processor_of first_built_in) ≡ points 0 first_built_in
first_works = each_whole built_in tested 0 (omega arith)

pub second_works : working_of (processor_of second_built_in) ≡ points 0 second_built_in
second_works = each_whole built_in tested 1 (omega arith)
