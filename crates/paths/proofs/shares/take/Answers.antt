-- `shares::take` meets its contract: the job leaves the set exactly when no share is left. Assumes nothing.
use mathlib.Core.Path.{refl}
use Rattle.paths.proofs.shares.take.Goals as goal
use Rattle.paths.proofs.shares.take.Goals.{then-shares-place, else-shares-place}

pub returns : goal.returns
returns c = (
  refl,
  elim c.if-shares-place.branch [
    | then-shares-place w ↦ record { leaves = λ all. rw w.holders-is w.remove.ensures; stays = λ more. absurd (more w.if-shares-place.true) }
    | else-shares-place w ↦ record { leaves = λ all. absurd (w.if-shares-place.false all); stays = λ more. w.holders-is }
  ],
)
