-- `checking::check_site` meets its contract: what the first half refuses is refused, and otherwise the second goes on with what it left.
-- Assumes nothing.
use mathlib.Core.Path.{refl, sym, ◌∙◌, ap}
use lib.ListN.{replicate}
use Rattle.std.specs.Prelude.{is_ok}
use Rattle.model.specs.Limits.{max_intervals}
use Rattle.job_records.proofs.SetsHave.{no-jobs}
use Rattle.fitting.proofs.Verdicts.{refused_passes}
use Rattle.audit.proofs.SecondHalf.{check_refused, check_continued}
use Rattle.audit.proofs.checking.check_site.Goals as goal

pub fit_site-first-requires : goal.fit_site-first-requires
fit_site-first-requires c =
    record { holds_some = c.requires.0; no_jobs = (no-jobs, refl {a = replicate max_intervals 0}, c.requires.1) }

pub check_prices-requires : goal.check_prices-requires
check_prices-requires c =
    let (site, valid, holds) = c.requires.0 in
    (site, c.fit_site-first.ensures.left (ap is_ok c.in-Ok.is) site valid holds)

pub returns-in-Ok : goal.returns-in-Ok
returns-in-Ok c =
    let answered = c.fit_site-first.ensures in
    let fits = c.in-Ok.is in record {
      value = λ site valid holds.
          rw (check_continued site _ _ _ (sym fits ∙ answered.judged site valid holds))
          (c.check_prices.ensures site (answered.left (ap is_ok fits) site valid holds));
      cells_seen = λ accepted. answered.seen (ap is_ok fits);
    }

pub returns-in-Err : goal.returns-in-Err
returns-in-Err c = record {
  value = λ site valid holds. check_refused site _ _ _ (sym c.in-Err.is ∙ c.fit_site-first.ensures.judged site valid holds);
  cells_seen = refused_passes;
}
