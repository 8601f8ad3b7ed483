-- `read_site` meets its contract. Assumes nothing.
use mathlib.Core.Path.{sym}
use borrow.Author.Rules.{rules}
use Rattle.std.proofs.lemmas.Result.{err_from_is_err_and}
use Rattle.model.specs.Sites.{read_given, alter_tables, read_site}
use Rattle.model.proofs.Refusals.{refused_then, returned_refused, returns_refused, returns_answered, refusal_returns}
use Rattle.model.proofs.Sites.{altered_tables_valid}
use Rattle.mark_tables.proofs.MarksIn.{marks_read, marks_few}
use Rattle.site.proofs.ReadSites.{given_valid}
use Rattle.site.proofs.HeldSites.{pair_count, pair_ordered}
use Rattle.site.proofs.read_site.Goals as goal

pub returns-in_err-given : goal.returns-in_err-given
unfolding read_site
returns-in_err-given c =
    let passed = err_from_is_err_and c.from_residual.result c.from_residual.ensures.1 in
    rw (passed.1, passed.2) (refusal_returns _ (refused_then _ (returns_refused _ _ _ c.in_err-given.ensures)))

pub returns-in_err-table : goal.returns-in_err-table
unfolding read_site
returns-in_err-table c =
    let passed = err_from_is_err_and c.from_residual-in_err-table.result c.from_residual-in_err-table.ensures.1 in
    let (given, is, holds) = returns_answered _ (read_given c.args.levels.now c.args.jobs.now) _ c.in_ok-given.ensures in
    rw (passed.1, passed.2, is) (refusal_returns _ (refused_then _ (returned_refused _ _ _ (sym c.in_err-table.ensures))))

pub alter_tables-requires : goal.alter_tables-requires
alter_tables-requires c =
    let (given, is, holds) = returns_answered _ (read_given c.args.levels.now c.args.jobs.now) _ c.in_ok-given.ensures in
    (given, given_valid _ _ given is, holds)

pub returns-in_err-tables : goal.returns-in_err-tables
unfolding read_site
returns-in_err-tables c =
    let passed = err_from_is_err_and c.from_residual-in_err-tables.result c.from_residual-in_err-tables.ensures.1 in
    let (given, is, holds) = returns_answered _ (read_given c.args.levels.now c.args.jobs.now) _ c.in_ok-given.ensures in
    rw (passed.1, passed.2, is, marks_read _ _ (sym c.in_ok-table.ensures))
    (refusal_returns _ (refused_then _ (returns_refused _ _ _ (c.in_err-tables.ensures given (given_valid _ _ given is) holds))))

pub site_of-requires : goal.site_of-requires
site_of-requires c =
    let (given, is, holds) = returns_answered _ (read_given c.args.levels.now c.args.jobs.now) _ c.in_ok-given.ensures in
    let valid = given_valid _ _ given is in
    let (tables, altered, held) = returns_answered _ _ _ (c.in_ok-tables.ensures given valid holds) in
    let (processor, jobs) = altered_tables_valid _ given valid.levels valid.jobs tables altered in
    record {
      times_value = (search rules, pair_count held jobs, marks_few _ _ (sym c.in_ok-table.ensures));
      by_index = pair_ordered held jobs;
    }

pub returns : goal.returns
unfolding read_site
returns c =
    let (given, is, holds) = returns_answered _ (read_given c.args.levels.now c.args.jobs.now) _ c.in_ok-given.ensures in
    let (tables, altered, held) = returns_answered _ (alter_tables c.args.parameters given) _ (c.in_ok-tables.ensures given (given_valid _ _ given is) holds) in
    rw (is, marks_read _ _ (sym c.in_ok-table.ensures), altered) (c.site_of.ensures tables _ held)
