-- `cells::take` meets its contract (proofs/CellSteps.antt). Assumes nothing.
use mathlib.Core.Path.{refl}
use Prim.Native.Nat.{◌+◌, ◌*◌, ◌<◌}
use native.Mathlib.Omega.{arith}
use lib.ListN.{length, length-set}
use Rattle.workloads.proofs.SharesTable.{place_in}
use Rattle.refilling.proofs.CellSteps.{takes_most, takes_none, put_none}
use Rattle.refilling.proofs.cells.take.Goals as goal
use Rattle.refilling.proofs.cells.take.Goals.{After-way_told-1}

-- the place of the share is in the table
in_table : (c : After-way_told-1) → c.args.interval * c.args.jobs + c.args.job < length c.args.shares.now
in_table c = place_in c.args.shares.now c.requires.room c.requires.inside c.requires.below

-- nothing can be taken
pub returns-then-amount-eq0 : goal.returns-then-amount-eq0
returns-then-amount-eq0 c =
    record {
      amount = 0;
      takes = takes_none c.args.job _ _ (rw c.if-amount-eq0.true at c.most-amount.ensures);
      table_is = put_none _ _;
      joined = λ some. absurd (omega arith);
      not_joined = λ none. refl;
      left_length = c.requires.left_length;
      cross_length = c.requires.cross_length;
    }

pub put-requires : goal.put-requires
put-requires c =
    let can = c.requires in record { job_in_bounds = (in_table (goal.at.put-requires c).After-way_told-1, omega (arith, can.empty, c.most-amount.ensures.fits, can.left_small)); interval_lt_max_intervals = (omega (arith, can.inside, can.intervals_most), omega (arith, can.below, can.jobs_most), can.holders_length) }

pub returns : goal.returns
returns c =
    let can = c.requires in
    record {
      amount = c.most-amount.result;
      takes =
          takes_most c.args.job c.args.left.now _ _ (omega (arith, can.below, can.jobs_most, can.left_length)) c.most-amount.ensures
          c.lower.ensures.0;
      table_is = c.put.ensures.0;
      joined = λ some. c.put.ensures.1;
      not_joined = λ none. absurd (c.if-amount-eq0.false none);
      left_length = rw length-set can.left_length;
      cross_length = c.lower.ensures.1;
    }
