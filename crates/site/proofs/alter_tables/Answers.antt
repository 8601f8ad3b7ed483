-- `alter_tables` meets its contract, by the laws of proofs/ReadSites.antt. Assumes nothing.
use mathlib.Core.Path.{refl, sym}
use native.Mathlib.Omega.{arith}
use Rattle.std.proofs.lemmas.Result.{err_from_is_err_and}
use Rattle.model.specs.LevelTables.{ValidLevelTable}
use Rattle.model.proofs.Refusals.{refusal_returns, answer_returns}
use Rattle.level_tables.specs.Tables.{levels_in}
use Rattle.level_tables.proofs.Read.{levels_count, top_in}
use Rattle.parameters.proofs.KeptLevels.{levels_kept, kept_valid, levels_limited}
use Rattle.parameters.proofs.AlteredJobs.{refused_altering}
use Rattle.site.proofs.ReadSites.{given_levels, given_jobs, highest_refused, altering_refused, both_altered}
use Rattle.site.proofs.alter_tables.Goals as goal
use Rattle.site.proofs.alter_tables.Goals.{In_ok-kept}

pub alter_levels-requires : goal.alter_levels-requires
alter_levels-requires c = levels_count _ _ _ (given_levels c.requires.1 c.requires.2)

pub returns-in_err-kept : goal.returns-in_err-kept
returns-in_err-kept c = λ given valid holds.
    let passed = err_from_is_err_and c.from_residual.result c.from_residual.ensures.1 in
    rw (passed.1, passed.2)
    (refusal_returns _ (highest_refused valid holds _ (levels_limited _ _ _ _ _ (c.alter_levels.ensures _) _ c.in_err-kept.was)))

pub alter_jobs-requires : goal.alter_jobs-requires
alter_jobs-requires c = given_jobs c.requires.1 c.requires.2

pub returns-in_err-count : goal.returns-in_err-count
returns-in_err-count c = λ given valid holds.
    let passed = err_from_is_err_and c.from_residual-in_err-count.result c.from_residual-in_err-count.ensures.1 in
    rw (passed.1, passed.2)
    (refusal_returns _
    (altering_refused valid holds _ (levels_kept _ _ _ _ _ (c.alter_levels.ensures c.args.given.voltages) _ c.in_ok-kept.was)
    (refused_altering c.alter_jobs.ensures _ c.in_err-count.was)))

-- the levels that stay are a valid table
kept : (c : In_ok-kept) → ValidLevelTable (levels_in c.in_ok-kept.kept c.args.given.frequencies c.args.given.voltages)
kept c = kept_valid _ _ _ _ _ (c.alter_levels.ensures _) (given_levels c.requires.1 c.requires.2) _ c.in_ok-kept.was

pub working_levels-requires : goal.working_levels-requires
working_levels-requires c = kept (goal.at.working_levels-requires c).In_ok-kept

pub overflow_sub-result : goal.overflow_sub-result
overflow_sub-result c = omega (arith, levels_count _ _ _ (kept (goal.at.overflow_sub-result c).In_ok-kept))

pub offset_bounds-given-kept : goal.offset_bounds-given-kept
offset_bounds-given-kept c = omega (arith, levels_count _ _ _ (kept (goal.at.offset_bounds-given-kept c).In_ok-kept))

pub bounds-given-kept : goal.bounds-given-kept
bounds-given-kept c = omega (arith, levels_count _ _ _ (kept (goal.at.bounds-given-kept c).In_ok-kept))

pub returns : goal.returns
returns c = λ given valid holds.
    let altered = c.in_ok-count.ensures in
    answer_returns _
    (both_altered valid holds _ (levels_kept _ _ _ _ _ (c.alter_levels.ensures c.args.given.voltages) _ c.in_ok-kept.was) (altered.held _ refl))
    (record {
      working_are = c.working_levels.ensures;
      top_is = sym (top_in _ _ _ (kept (goal.at.returns c).In_ok-kept));
      jobs_are = refl;
      zeros_past = altered.cycles_past _ refl;
    })
