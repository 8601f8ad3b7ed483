-- `marks::marked_bounds` meets its contract: the first and the last bound are the earliest release and the latest deadline, by the
-- laws of proofs/MarkedTimes.antt. Assumes nothing.
use mathlib.Core.Path.{refl, ap}
use mathlib.Core.List.{[]}
use Prim.Native.Nat.{ℕ, ◌*◌, ◌≤◌}
use native.Mathlib.Omega.{arith}
use lib.ListN.{get_or}
use Rattle.model.specs.Limits.{max_jobs}
use Rattle.model.proofs.BoundsOf.{length_bounds_of, bounds_of_rises}
use Rattle.job_tables.specs.Tables.{jobs_in}
use Rattle.job_tables.proofs.Read.{length_jobs_in}
use Rattle.intervals.proofs.Padded.{holds_padded, holds_rising}
use Rattle.marked_bounds.proofs.MarkedTimes.{marked_held}
use Rattle.marked_bounds.proofs.marks.marked_bounds.Goals as goal
use Rattle.marked_bounds.proofs.marks.marked_bounds.Goals.{After-way_told-1}

-- two bounds for each job at most
few : (c : After-way_told-1) → c.bounds_of-bounds.result ≤ 2 * max_jobs
few c =
    let a = c.args in
    let jobs = jobs_in a.count a.releases.now a.deadlines.now [] in
    omega (arith, (c.bounds_of-bounds.ensures []).counted, length_bounds_of jobs, length_jobs_in a.count a.releases.now a.deadlines.now [])

pub offset_bounds-times-interval_count : goal.offset_bounds-times-interval_count
offset_bounds-times-interval_count c = omega (arith, few (goal.at.offset_bounds-times-interval_count c).After-way_told-1)

pub bounds-times-interval_count : goal.bounds-times-interval_count
bounds-times-interval_count c = omega (arith, few (goal.at.bounds-times-interval_count c).After-way_told-1)

pub insert_marks-requires : goal.insert_marks-requires
insert_marks-requires c =
    let held = c.bounds_of-bounds.ensures [] in
    let most = few (goal.at.insert_marks-requires c).After-way_told-1 in
    record { mark_count_le_max_marks = (omega arith, omega arith); times_value = (holds_padded held (omega arith), holds_rising held (omega arith) (bounds_of_rises _)) }

pub returns : goal.returns
returns c = λ cycles.
    let most = few (goal.at.returns c).After-way_told-1 in
    let place = ap (λ (i : ℕ). get_or c.bounds_of-bounds.new.times i 0) c.interval_count.ensures in
    marked_held c.args.count c.args.releases.now c.args.deadlines.now cycles c.requires.by_index
    (c.bounds_of-bounds.ensures cycles) (omega arith) _ refl place c.insert_marks.ensures
