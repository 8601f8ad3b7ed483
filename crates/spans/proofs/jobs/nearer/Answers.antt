-- `jobs::nearer` meets its contract: one law for each way out (proofs/NearestDeadlines.antt). Assumes nothing.
use mathlib.Core.Path.{sym, ◌∙◌}
use Rattle.spans.proofs.NearestDeadlines.{nearer_early, nearer_first, nearer_than, not_nearer}
use Rattle.spans.proofs.jobs.nearer.Goals as goal

pub returns-then-deadline-start : goal.returns-then-deadline-start
returns-then-deadline-start c = nearer_early _ _ c.if-deadline-start.true _

pub returns-in-None : goal.returns-in-None
returns-in-None c least was = nearer_first _ _ c.if-deadline-start.false least (sym c.in-None.is ∙ was)

pub returns-then-deadline-least : goal.returns-then-deadline-least
returns-then-deadline-least c least was =
    nearer_than _ _ c.if-deadline-start.false _ c.if-deadline-least.true least (sym c.in-Some.is ∙ was)

pub returns-else-deadline-least : goal.returns-else-deadline-least
returns-else-deadline-least c least was =
    not_nearer _ _ c.if-deadline-start.false _ c.if-deadline-least.false least (sym c.in-Some.is ∙ was)
