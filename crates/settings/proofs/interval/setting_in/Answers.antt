-- `interval::setting_in` meets its contract. Each way out rests on the tests that led there and on what the callees ensure
-- (proofs/Answers.antt). Assumes nothing.
use mathlib.Core.Path.{◌∙◌, ap}
use native.Mathlib.Omega.{arith}
use Rattle.std.specs.Prelude.{Err}
use Rattle.level_tables.proofs.Read.{levels_count}
use Rattle.settings.proofs.Answers.{too_short, too_long, top_load, overloaded, working_fits, settled}
use Rattle.settings.proofs.interval.setting_in.Goals as goal

pub returns-then-length-lt1 : goal.returns-then-length-lt1
returns-then-length-lt1 c = ap Err c.at.ensures ∙ too_short _ _ _ _ _ c.if-length-lt1.true

pub returns-then-length-gt-MAX_DEADLINE : goal.returns-then-length-gt-MAX_DEADLINE
returns-then-length-gt-MAX_DEADLINE c = ap Err c.at-then-length-gt-MAX_DEADLINE.ensures ∙ too_long _ _ _ _ _ (omega arith) c.if-length-gt-MAX_DEADLINE.true

pub overflow_sub-count : goal.overflow_sub-count
overflow_sub-count c = (levels_count _ _ _ c.requires).0

pub offset_bounds-frequencies-count : goal.offset_bounds-frequencies-count
offset_bounds-frequencies-count c = omega (arith, (levels_count _ _ _ c.requires).1)

pub bounds-frequencies-count : goal.bounds-frequencies-count
bounds-frequencies-count c = omega (arith, (levels_count _ _ _ c.requires).1)

pub overflow_mul-length : goal.overflow_mul-length
overflow_mul-length c =
    let args = c.args in
    omega (arith, top_load args.count args.frequencies.now args.voltages.now c.requires args.length (omega arith))

pub returns-then-length-frequencies : goal.returns-then-length-frequencies
returns-then-length-frequencies c = ap Err c.at-then-length-frequencies.ensures ∙ overloaded _ _ _ _ _ c.requires (omega arith) (omega arith) c.if-length-frequencies.true

pub setting_of-requires : goal.setting_of-requires
setting_of-requires c =
    let fit =
    working_fits _ _ _ _ _ c.requires (omega arith) (omega arith) c.if-length-frequencies.false _ c.working_levels-working.ensures in
    record { small_points = fit.0; length_le_max_deadline = fit.1.0; fits = fit.1.1 }

pub returns : goal.returns
returns c =
    settled _ _ _ _ _ c.requires (omega arith) (omega arith) c.if-length-frequencies.false _ c.working_levels-working.ensures
    _ c.setting_of.ensures
