-- What is answered of the nearest deadline, and what a lent list holds afterwards.
use Rattle.std.specs.Prelude.{ℕ, List, ◌++◌, length, drop, Option, Some, None}
use Rattle.std.proofs.Math.Option.{Option as Nearest, none, some}

-- The nearest deadline, or none.
abbrev pub nearest_answer : Nearest ℕ → Option ℕ
nearest_answer none = None
nearest_answer (some deadline) = Some deadline

-- A lent list afterwards: the members at its start, and after them what was there.
abbrev pub listed : (members before : List ℕ) → List ℕ
listed members before = members ++ drop (length members) before
