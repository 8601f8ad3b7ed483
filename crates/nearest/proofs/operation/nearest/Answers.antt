-- `operation::nearest` meets its contract: tables are refused as reading refuses them, and the rest is what `nearest_of_tables` keeps.
-- Assumes nothing.
use Rattle.std.proofs.lemmas.Result.{err_from_is_err_and}
use Rattle.model.proofs.Refusals.{returns_refused, returns_answered}
use Rattle.model.proofs.Sites.{tables_are_valid}
use Rattle.nearest.proofs.NearestStages.{tables_refused, tables_answered}
use Rattle.nearest.proofs.operation.nearest.Goals as goal

pub nearest_of_tables-requires : goal.nearest_of_tables-requires
nearest_of_tables-requires c =
    let (tables, is, holds) = returns_answered _ _ _ c.in_ok-tables.ensures in
    let (processor, jobs) = tables_are_valid _ _ _ tables is in
    (tables, record { processor = processor; jobs = jobs }, holds)

pub returns-in_err-tables : goal.returns-in_err-tables
returns-in_err-tables c =
    let passed = err_from_is_err_and c.from_residual.result c.from_residual.ensures.1 in
    rw (passed.1, passed.2) (tables_refused _ _ _ _ _ (returns_refused _ _ _ c.in_err-tables.ensures))

pub returns : goal.returns
returns c =
    let (tables, is, holds) = returns_answered _ _ _ c.in_ok-tables.ensures in
    let (processor, jobs) = tables_are_valid _ _ _ tables is in
    tables_answered _ _ _ _ tables is (c.nearest_of_tables.ensures tables (record { processor = processor; jobs = jobs }) holds)
