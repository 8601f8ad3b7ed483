use mathlib.Core.List.{List}
use Prim.Native.Nat.{ℕ, ◌<◌}
use lib.ListN.{length}
use Rattle.tasks.specs.Tasks.{task_entries}
use Rattle.task_tables.specs.TaskBytes.{TaskBytes}
use Rattle.laying.specs.NextReleases.{Earliest}
use Rattle.task_tables.proofs.TaskReading.{count_entries}
use Rattle.laying.proofs.TickByTick.{Laying, laying_start, laying_next, laying_ends, laying_stops}
use native.Mathlib.Omega.{arith}
use Rattle.laying.proofs.laying.lay_out.Goals as goal
use Rattle.laying.proofs.laying.lay_out.Goals.{After-earliest-tick-in-loop-tick}

-- the earliest of as many next releases as there are tasks
of-all : (bytes : List ℕ) {count : ℕ} → TaskBytes bytes count → {next : List ℕ} {end least : ℕ} → Earliest next count end least
    → Earliest next (length (task_entries bytes)) end least
of-all bytes {count} table h = rw (count_entries bytes count table) h

pub first_releases-next-requires : goal.first_releases-next-requires
first_releases-next-requires c = c.requires.round_read.tasks_read

pub earliest-tick-requires : goal.earliest-tick-requires
earliest-tick-requires c = c.requires.round_read.tasks_read.table.few

pub loop-tick-init : goal.loop-tick-init
loop-tick-init c =
    laying_start _ _ _ _ _ _ _ c.first_releases-next.ensures c.requires.job_arrays (of-all _ c.requires.round_read.tasks_read.table c.earliest-tick.ensures)

pub returns-then-listed-gt-MAX_JOBS : goal.returns-then-listed-gt-MAX_JOBS
returns-then-listed-gt-MAX_JOBS c =
    laying_stops _ _ _ _ _ _ _ _ c.loop-tick.invariant c.loop-tick-test.true _ _ _ _ c.release_at-listed.ensures.listed_jobs c.if-listed-gt-MAX_JOBS.true

pub release_at-listed-requires : goal.release_at-listed-requires
release_at-listed-requires c =
    record { round_read = c.requires.round_read; tick_lt_multiple = (c.loop-tick-test.true, c.loop-tick.invariant.few); next_releases = c.loop-tick.invariant.next-releases; job_arrays = c.loop-tick.invariant.arrays }

pub earliest-tick-requires-in-loop-tick : goal.earliest-tick-requires-in-loop-tick
earliest-tick-requires-in-loop-tick c = c.requires.round_read.tasks_read.table.few

-- one turn: what is released at the tick, and the next tick
turn : (c : After-earliest-tick-in-loop-tick)
    → let done = c.release_at-listed in
    Laying (task_entries c.args.bytes.now) c.args.multiple c.earliest-tick-in-loop-tick.result done.new.next
    done.new.releases done.new.deadlines done.new.cycles done.result
    × (c.loop-tick.tick < c.earliest-tick-in-loop-tick.result)
turn c =
    let done = c.release_at-listed in
    laying_next _ _ _ _ _ _ _ _ c.loop-tick.invariant c.loop-tick-test.true _ _ _ _ done.ensures.listed_jobs c.if-listed-gt-MAX_JOBS.false
    _ _ done.ensures.next_releases_2 done.ensures.job_arrays_2 (of-all _ c.requires.round_read.tasks_read.table c.earliest-tick-in-loop-tick.ensures)

pub loop-tick-smaller : goal.loop-tick-smaller
loop-tick-smaller c = omega (arith, (turn (goal.at.loop-tick-smaller c).After-earliest-tick-in-loop-tick).1)

pub loop-tick-preserved : goal.loop-tick-preserved
loop-tick-preserved c = (turn (goal.at.loop-tick-preserved c).After-earliest-tick-in-loop-tick).0

pub returns : goal.returns
returns c = laying_ends _ _ _ _ _ _ _ _ c.loop-tick.invariant c.loop-tick-test.false
