-- Searches among the numbers 0, 1, .. , count - 1.
use Rattle.std.specs.Prelude.{ℕ, zero, suc, min, Bool, true, false, ◌||◌, cond, List, [], ◌∷◌}
use Rattle.std.proofs.Math.Option.{Option, none, some}
use Rattle.model.specs.Entries.{joined}

-- Some number below count passes the test.
unfoldable pub some_below : (count : ℕ) → (ℕ → Bool) → Bool
some_below zero test = false
some_below (suc count) test = some_below count test || test count

-- All numbers below count that pass the test, rising.
abbrev pub passing_below : (count : ℕ) → (ℕ → Bool) → List ℕ
passing_below count test = joined count (λ n. cond (test n) (n ∷ []) [])

-- The first of first, first + 1, .. , as many as count, that passes the test; the number after them where none does.
unfoldable pub first_from : (first count : ℕ) → (ℕ → Bool) → ℕ
first_from first zero test = first
first_from first (suc count) test = cond (test first) first (first_from (suc first) count test)

-- The first number below count that passes the test, or count where none does.
abbrev pub first_below : (count : ℕ) → (ℕ → Bool) → ℕ
first_below count test = first_from 0 count test

-- The smaller of a value, where it counts, and what was found before.
abbrev pub smaller : Bool → ℕ → Option ℕ → Option ℕ
smaller false value found = found
smaller true value none = some value
smaller true value (some least) = some (min value least)

-- The least of value 0, value 1, .. , value (count - 1) among the numbers that pass the test.
unfoldable pub least_below : (count : ℕ) → (value : ℕ → ℕ) → (test : ℕ → Bool) → Option ℕ
least_below zero value test = none
least_below (suc count) value test = smaller (test count) (value count) (least_below count value test)
