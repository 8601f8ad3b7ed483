-- `smallest::raise_all` meets its contract (proofs/HeldShares.antt). Assumes nothing.
use mathlib.Core.Path.{refl}
use native.Mathlib.Omega.{arith}
use Rattle.prices.proofs.HeldShares.{can_raise}
use Rattle.prices.proofs.smallest.raise_all.Goals as goal

pub highest_prices-requires : goal.highest_prices-requires
highest_prices-requires c =
    let can = c.requires.2 in
    (omega (arith, can.intervals_are, can.rise.sound.intervals_most), refl)

pub raise_jobs-requires : goal.raise_jobs-requires
raise_jobs-requires c =
    let known = c.requires in
    (known.0, known.1, can_raise known.2 c.highest_prices.ensures)

pub returns : goal.returns
returns c = λ work table can. c.raise_jobs.ensures work table (can_raise can c.highest_prices.ensures)
