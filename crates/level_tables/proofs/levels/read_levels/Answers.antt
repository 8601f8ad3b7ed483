-- `levels::read_levels` meets its contract. Each way out rests on the tests that led there and on what the callees
-- ensure, by the laws of proofs/DecodedLevels.antt. Assumes nothing.
use mathlib.Core.Path.{◌∙◌, ap}
use native.Mathlib.Omega.{arith}
use Rattle.std.specs.Prelude.{Err}
use Rattle.std.proofs.lemmas.Result.{err_from_is_err_and}
use Rattle.level_tables.specs.Tables.{level_table}
use Rattle.level_tables.proofs.DecodedLevels.{levels_short, levels_none, levels_many, levels_cut, levels_whole, levels_refused, levels_filled}
use Rattle.level_tables.proofs.levels.read_levels.Goals as goal

pub returns-then-bytes-lt2 : goal.returns-then-bytes-lt2
returns-then-bytes-lt2 c = ap Err c.at.ensures ∙ ap level_table (levels_short _ c.if-bytes-lt2.true)

pub returns-then-count-lt1 : goal.returns-then-count-lt1
returns-then-count-lt1 c = ap Err c.at-then-count-lt1.ensures ∙ ap level_table (levels_none _ (omega arith) (omega arith))

pub returns-then-count-gt-MAX_LEVELS : goal.returns-then-count-gt-MAX_LEVELS
returns-then-count-gt-MAX_LEVELS c = ap Err c.at-then-count-gt-MAX_LEVELS.ensures ∙ ap level_table (levels_many _ (omega arith) (omega arith))

pub returns-then-bytes-count : goal.returns-then-bytes-count
returns-then-bytes-count c = ap Err c.at-then-bytes-count.ensures ∙ ap level_table (levels_cut _ (omega arith) (omega arith) (omega arith) (λ e. omega arith))

pub returns : goal.returns
returns c =
    levels_filled
    _ _ _ _ _
    c.number16-count.ensures.0 (omega arith) c.column16-frequencies.ensures.value c.column16-voltages.ensures.value c.check_levels.ensures
    _
    c.in_ok-check_levels.was
    ∙ ap level_table (levels_whole _ (omega arith) (omega arith) (omega arith) (omega arith))

pub returns-in_err-check_levels : goal.returns-in_err-check_levels
returns-in_err-check_levels c =
    let passed = err_from_is_err_and c.from_residual.result c.from_residual.ensures.1 in
    rw (passed.1, passed.2)
    (levels_refused
    _ _ _ _ _
    c.number16-count.ensures.0 (omega arith) c.column16-frequencies.ensures.value c.column16-voltages.ensures.value c.check_levels.ensures
    _
    c.in_err-check_levels.was
    ∙ ap level_table (levels_whole _ (omega arith) (omega arith) (omega arith) (omega arith)))
