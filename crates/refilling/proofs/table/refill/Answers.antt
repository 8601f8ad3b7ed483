-- `table::refill` meets its contract (proofs/RefillStarts.antt). Assumes nothing.
use mathlib.Core.Path.{refl}
use lib.ListN.{replicate}
use Rattle.model.specs.Limits.{max_bounds}
use Rattle.job_sets.specs.JobSets.{no_jobs}
use Rattle.workloads.specs.Workloads.{Workload}
use Rattle.workloads.specs.Arrays.{numbers_in}
use Rattle.refilling.specs.Crosses.{CanCross}
use Rattle.refilling.specs.RefillTables.{lent_cycles, BetweenRows}
use Rattle.refilling.specs.RefilledTables.{CanRefill}
use Rattle.refilling.proofs.RefillStarts.{can_clear, last_most, can_cross, can_fill, refilled_tables}
use Rattle.refilling.proofs.table.refill.Goals as goal
use Rattle.refilling.proofs.table.refill.Goals.{After-cross-2-1, After-next-1}

pub clear-requires : goal.clear-requires
clear-requires c = can_clear c.requires.1

pub add_due-requires : goal.add_due-requires
add_due-requires c =
    let can = c.requires.1 in
    record { jobs_le_max_jobs = (can.sound.jobs_most, can.cycles_small, last_most can); due_value = refl }

-- the crosses can be worked out, of each workload that stands in what the function is lent
crossing : (c : After-cross-2-1) (work : Workload)
    → let a = c.args in
    CanRefill (lent_cycles work a.jobs a.intervals a.last.now a.cycles.now) a.«open».now a.shares.now a.loads.now a.holders.now
    → CanCross a.jobs a.intervals (numbers_in a.last.now) (numbers_in a.cycles.now) a.loads.now c.add_due.new.due
crossing c work can = can_cross can _ c.add_due.ensures.0 c.add_due.ensures.1

pub add_loads-requires : goal.add_loads-requires
add_loads-requires c =
    let known = c.requires in
    (_, _, _, crossing (goal.at.add_loads-requires c).After-cross-2-1 known.0 known.1)

-- the intervals can be filled
filling : (c : After-next-1) (work : Workload)
    → let a = c.args in
    CanRefill (lent_cycles work a.jobs a.intervals a.last.now a.cycles.now) a.«open».now a.shares.now a.loads.now a.holders.now
    → BetweenRows (lent_cycles work a.jobs a.intervals a.last.now a.cycles.now) (numbers_in a.loads.now)
    c.clear.new.shares c.clear.new.holders a.cycles.now c.add_loads.new.cross
    (replicate max_bounds a.intervals) 0 a.intervals no_jobs
filling c work can =
    let crossed = c.add_loads.ensures _ _ _ (can_cross can _ c.add_due.ensures.0 c.add_due.ensures.1) in
    can_fill can c.clear.ensures crossed.0 crossed.1 refl

pub fill_rows-requires : goal.fill_rows-requires
fill_rows-requires c =
    let a = c.args in
    let (work, can) = c.requires in
    (lent_cycles work a.jobs a.intervals a.last.now a.cycles.now, numbers_in a.loads.now, can.open-sets, filling (goal.at.fill_rows-requires c).After-next-1 work can)

pub returns : goal.returns
returns c = λ work can.
    let a = c.args in
    let done = c.fill_rows.ensures (lent_cycles work a.jobs a.intervals a.last.now a.cycles.now) (numbers_in a.loads.now) can.open-sets (filling (goal.at.returns c).After-next-1 work can) in
    refilled_tables can c.clear.ensures.kept done.0 done.1 done.2
