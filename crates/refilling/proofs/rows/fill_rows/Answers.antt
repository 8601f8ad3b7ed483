use mathlib.Core.Path.{◌≡◌}
use native.Mathlib.Numerals.{add-one}
use native.Mathlib.Omega.{arith}
use Rattle.workloads.proofs.SharesTable.{kept_refl, kept_trans}
use Rattle.loads.proofs.Refilled.{refill_ends}
use Rattle.refilling.specs.RefillTables.{lent_lasts, BetweenRows}
use Rattle.refilling.proofs.RowSteps.{row_ends}
use Rattle.refilling.proofs.rows.fill_rows.Goals as goal
use Rattle.refilling.proofs.rows.fill_rows.Goals.{At-loop-interval}

pub loop-interval-init : goal.loop-interval-init
loop-interval-init c = (omega arith, λ work loads opens before. (kept_refl _ _, rw c.none-finished.ensures before))

-- what the caller has, filled so far
own : (c : At-loop-interval)
    → let a = c.args in
    BetweenRows (lent_lasts c.requires.0 a.jobs a.intervals a.last.now) c.requires.1 c.loop-interval.shares c.loop-interval.holders c.loop-interval.left
    c.loop-interval.cross c.loop-interval.next c.loop-interval.interval c.loop-interval.uncrossed c.loop-interval.finished
own c = let known = c.requires in (c.loop-interval.invariant.1 known.0 known.1 known.2 known.3).1

pub start_row-start-requires : goal.start_row-start-requires
start_row-start-requires c =
    let known = own (goal.at.start_row-start-requires c).At-loop-interval in
    (c.loop-interval-test.true, known.tables.sound.intervals_most, known.uncrossed_are.next_inside)

pub fill_row-row-requires : goal.fill_row-row-requires
fill_row-row-requires c =
    let known = c.requires in
    (known.0, known.1, known.2, c.start_row-start.ensures known.0 known.1 _ _ _ _ _ _ known.2 (own (goal.at.fill_row-row-requires c).At-loop-interval))

pub loop-interval-preserved : goal.loop-interval-preserved
loop-interval-preserved c = (
  omega (arith, c.loop-interval-test.true),
  λ work loads opens before.
      let (kept, filled) = c.loop-interval.invariant.1 work loads opens before in
      let (kept_next, done) = c.fill_row-row.ensures.row_filled work loads opens (c.start_row-start.ensures work loads _ _ _ _ _ _ opens filled) in
      (kept_trans kept kept_next, rw add-one (row_ends done c.fill_row-row.ensures.rest_value)),
)

pub shape_of-shares : goal.shape_of-shares
shape_of-shares c =
    let known = c.requires in
    (c.loop-interval.invariant.1 known.0 known.1 known.2 known.3).0.same_length

pub returns : goal.returns
returns c = λ work loads opens before.
    let (kept, filled) = c.loop-interval.invariant.1 work loads opens before in
    let all : c.loop-interval.interval ≡ c.args.intervals = omega (arith, c.loop-interval.invariant.0, c.loop-interval-test.false) in
    let tables = filled.tables in
    (kept, tables.holding, refill_ends tables.sound.sound (rw all at tables.refilling))
