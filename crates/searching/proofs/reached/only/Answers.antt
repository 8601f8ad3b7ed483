-- `reached::only` meets its contract. Assumes nothing.
use Rattle.searching.proofs.reached.only.Goals as goal

pub returns : goal.returns
returns c = λ reached source. rw (c.without-unlisted.ensures, c.all.ensures)
