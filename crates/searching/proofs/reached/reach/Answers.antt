-- `reached::reach` meets its contract. Assumes nothing.
use Rattle.searching.proofs.reached.reach.Goals as goal

pub returns : goal.returns
returns c = rw (c.without-unlisted.ensures, c.min.ensures, c.max.ensures)
