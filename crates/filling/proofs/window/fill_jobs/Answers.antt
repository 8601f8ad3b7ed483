use mathlib.Core.Path.{◌≡◌}
use mathlib.Core.Bool.{true}
use Prim.Native.Nat.{ℕ, ◌*◌, ◌<◌}
use Rattle.job_sets.specs.JobSets.{is_member}
use Rattle.workloads.specs.Arrays.{lent_windows, KeptPast}
use Rattle.workloads.proofs.SharesTable.{kept_refl, kept_trans}
use Rattle.filling.specs.Filling.{FillingTables}
use Rattle.filling.proofs.JobMembers.{leaving_below}
use Rattle.filling.proofs.window.fill_jobs.Goals as goal
use Rattle.filling.proofs.window.fill_jobs.Goals.{After-fill_set-arg-in-loop-interval-3-1, At-loop-interval}

pub loop-interval-init : goal.loop-interval-init
loop-interval-init c = λ work band prices tables. (kept_refl _ _, tables)

-- what the loop has placed, of the workload that is known
own : (c : At-loop-interval)
    → let a = c.args in
    let known = c.requires.windows_pass in
    KeptPast (known.0.intervals * a.jobs) a.shares.now c.loop-interval.shares
    × FillingTables (lent_windows known.0 a.jobs a.first.now a.last.now) c.loop-interval.shares c.loop-interval.room c.loop-interval.holders
    c.loop-interval.left known.2 known.1 0
own c = let known = c.requires.windows_pass in c.loop-interval.invariant known.0 known.1 known.2 known.3

pub leaving-set-requires : goal.leaving-set-requires
leaving-set-requires c = (c.loop-interval-test.true, c.requires.intervals_le_max_intervals)

-- those that leave are jobs
all-jobs : (c : After-fill_set-arg-in-loop-interval-3-1) → (j : ℕ) → is_member c.leaving-set.result j ≡ true → j < c.args.jobs
all-jobs c = leaving_below _ _ _ c.requires.by_index _ c.loop-interval-test.true _ c.leaving-set.ensures

pub fill_set-requires : goal.fill_set-requires
fill_set-requires c =
    let known = c.requires.windows_pass in
    record { windows_pass = (known.0, known.1, known.2, (own (goal.at.fill_set-requires c).At-loop-interval).1); by_index = all-jobs (goal.at.fill_set-requires c).After-fill_set-arg-in-loop-interval-3-1 }

pub loop-interval-preserved : goal.loop-interval-preserved
loop-interval-preserved c = λ work band prices tables.
    let (kept, filling) = c.loop-interval.invariant work band prices tables in
    let (kept_next, next) = c.fill_set.ensures work band prices filling in
    (kept_trans kept kept_next, next)

pub shape_of-shares : goal.shape_of-shares
shape_of-shares c = (own (goal.at.shape_of-shares c).At-loop-interval).0.same_length

pub returns : goal.returns
returns c = c.loop-interval.invariant
