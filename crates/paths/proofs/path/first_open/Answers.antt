use mathlib.Core.Path.{sym, ◌∙◌}
use mathlib.Core.Logic.{◌⊎◌, inl, inr}
use Prim.Native.Nat.{ℕ, ◌<◌, ◌≤◌}
use native.Mathlib.Omega.{arith}
use borrow.Author.Count.{below_none, below_more}
use borrow.Author.Tests.{le-leb, lt-leb, lt-ltb, le-ltb}
use Rattle.model.specs.Limits.{max_jobs}
use Rattle.model.proofs.Numbers.{lt_or_le, true≢false}
use Rattle.model.proofs.Search.{first_below_is}
use Rattle.workloads.specs.Placement.{Problem}
use Rattle.workloads.specs.Arrays.{numbers_in}
use Rattle.searching.specs.Reaching.{with_windows}
use Rattle.paths.specs.Paths.{first_open, SomeOpen}
use Rattle.paths.proofs.path.first_open.Goals as goal
use Rattle.paths.proofs.path.first_open.Goals.{After-way_told-1, then-first-job+else-here-last, else-first-job}

pub overflow_cast-here : goal.overflow_cast-here
overflow_cast-here c = omega (arith, c.requires.interval_below)

pub loop-interval-init : goal.loop-interval-init
loop-interval-init c = below_none _

-- a reached job that is open is not passed
not-passed : (c : After-way_told-1)
    → let a = c.args in
    (p : Problem) (jobs count : ℕ)
    → SomeOpen (with_windows p jobs a.first.now a.last.now) count (numbers_in a.reached.now) a.interval
    → c.loop-interval.s < count
not-passed c p jobs count (s, below, is_open_true) = go (lt_or_le s c.loop-interval.s)
  where
    go : (s < c.loop-interval.s) ⊎ (c.loop-interval.s ≤ s) → c.loop-interval.s < count
    go (inl passed) = absurd (true≢false (sym (rw (le-leb _ _ is_open_true.from) (lt-ltb _ _ is_open_true.to)) ∙ c.loop-interval.invariant s passed))
    go (inr later) = omega arith

-- the number fits the arrays
fits : (c : After-way_told-1) → c.loop-interval.s < max_jobs
fits c = let can = c.requires in omega (arith, not-passed c can.problem can.jobs can.count can.some_open, can.count_most)

-- and so does that of the job
job_fits : (c : After-way_told-1) → numbers_in c.args.reached.now c.loop-interval.s < max_jobs
job_fits c = let can = c.requires in can.jobs_below _ (not-passed c can.problem can.jobs can.count can.some_open)

pub bounds-reached-s : goal.bounds-reached-s
bounds-reached-s c = fits (goal.at.bounds-reached-s c).After-way_told-1

pub overflow_cast-job : goal.overflow_cast-job
overflow_cast-job c = omega (arith, job_fits (goal.at.overflow_cast-job c).After-way_told-1)

pub bounds-first-job : goal.bounds-first-job
bounds-first-job c = job_fits (goal.at.bounds-first-job c).After-way_told-1

pub bounds-last-job : goal.bounds-last-job
bounds-last-job c = job_fits (goal.at.bounds-last-job c).After-way_told-1

pub returns-then-here-last : goal.returns-then-here-last
unfolding first_open
returns-then-here-last c = λ p jobs count some_open.
    sym (first_below_is _ _ _ (not-passed (goal.at.returns-then-here-last c).After-way_told-1 p jobs count some_open) c.loop-interval.invariant
    (rw (le-leb _ _ c.if-first-job.true) (lt-ltb _ _ c.if-here-last.true)))

pub overflow_add-s : goal.overflow_add-s
overflow_add-s c = omega (arith, fits (goal.at.overflow_add-s c).After-way_told-1)

pub loop-interval-smaller : goal.loop-interval-smaller
loop-interval-smaller c = omega (arith, fits (goal.at.loop-interval-smaller c).After-way_told-1)

pub loop-interval-preserved : goal.loop-interval-preserved
loop-interval-preserved c =
    below_more _ _ c.loop-interval.invariant
    (elim c.if-first-job.branch [
      | then-first-job+else-here-last w ↦ rw (le-leb _ _ w.if-first-job.true) (le-ltb _ _ w.if-here-last.false)
      | else-first-job w ↦ rw (lt-leb _ _ w.if-first-job.false)
    ])
