-- `smallest::raise_window` meets its contract (proofs/RisePasses.antt). Assumes nothing.
use mathlib.Core.Path.{sym, ◌∙◌}
use Rattle.prices.proofs.RisePasses.{window_raised, window_kept}
use Rattle.prices.proofs.smallest.raise_window.Goals as goal

pub returns-then-is_below : goal.returns-then-is_below
returns-then-is_below c =
    window_raised c.is_below.ensures c.if-is_below.true c.raise.ensures.0 (c.raise.ensures.1 ∙ sym c.requires.2)

pub returns : goal.returns
returns c = window_kept c.is_below.ensures c.if-is_below.false
