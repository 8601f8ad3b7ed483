-- `read_tables` meets its contract. Assumes nothing.
use Rattle.std.proofs.lemmas.Result.{err_from_is_err_and}
use Rattle.model.specs.Sites.{read_given, read_tables}
use Rattle.model.proofs.Refusals.{refused_then, returns_refused, returns_answered, refusal_returns}
use Rattle.site.proofs.ReadSites.{given_valid}
use Rattle.site.proofs.read_tables.Goals as goal

pub returns-in_err-given : goal.returns-in_err-given
unfolding read_tables
returns-in_err-given c =
    let passed = err_from_is_err_and c.from_residual.result c.from_residual.ensures.1 in
    rw (passed.1, passed.2) (refusal_returns _ (refused_then _ (returns_refused _ _ _ c.in_err-given.ensures)))

pub alter_tables-requires : goal.alter_tables-requires
alter_tables-requires c =
    let (given, is, holds) = returns_answered _ (read_given c.args.levels.now c.args.jobs.now) _ c.in_ok-given.ensures in
    (given, given_valid _ _ given is, holds)

pub returns : goal.returns
unfolding read_tables
returns c =
    let (given, is, holds) = returns_answered _ (read_given c.args.levels.now c.args.jobs.now) _ c.in_ok-given.ensures in
    rw is (c.alter_tables.ensures given (given_valid _ _ given is) holds)
