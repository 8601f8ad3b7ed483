-- `altered_levels::alter_levels` meets its contract. Each way out rests on the tests that led there (proofs/KeptLevels.antt).
-- Assumes nothing.
use mathlib.Core.Path.{◌∙◌, ap}
use native.Mathlib.Omega.{arith}
use Rattle.std.specs.Prelude.{Err}
use Rattle.parameters.proofs.KeptLevels.{none_allowed, too_high, allowed}
use Rattle.parameters.proofs.altered_levels.alter_levels.Goals as goal

pub returns-then-highest-lt1 : goal.returns-then-highest-lt1
returns-then-highest-lt1 c = λ voltages. ap Err c.at.ensures ∙ none_allowed _ _ voltages c.requires.0 _ c.if-highest-lt1.true

pub returns-then-kept-count : goal.returns-then-kept-count
returns-then-kept-count c = λ voltages. ap Err c.at-then-kept-count.ensures ∙ too_high _ _ voltages c.requires.0 _ (omega arith) _ c.idle_entries.ensures.0 (omega arith)

pub returns : goal.returns
returns c = λ voltages. allowed _ _ voltages c.requires.0 _ (omega arith) _ c.idle_entries.ensures.0 (omega arith)
