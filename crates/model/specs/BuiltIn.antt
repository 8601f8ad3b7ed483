-- The two level tables that are built in (document 01, "Tables in bytes"; frequency, voltage).
use Rattle.std.specs.Prelude.{ℕ, List, [], ◌∷◌}
use Rattle.model.specs.declared.Level.{Level}

abbrev pub level : ℕ → ℕ → Level
level f v = record { frequency = f; voltage = v }

abbrev pub first_built_in : List Level
first_built_in = level 300 90 ∷ level 400 100 ∷ level 533 110 ∷ level 667 120 ∷ level 800 130 ∷ []

abbrev pub second_built_in : List Level
second_built_in = level 300 140 ∷ level 350 150 ∷ level 400 160 ∷ level 450 170 ∷ level 500 180 ∷ []
