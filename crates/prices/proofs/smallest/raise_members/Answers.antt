use mathlib.Core.Path.{◌≡◌, sym, ◌∙◌}
use mathlib.Core.Bool.{true}
use Prim.Native.Nat.{◌<◌}
use native.Mathlib.Omega.{arith}
use borrow.Author.Tests.{not-true, not-false}
use Rattle.model.specs.Limits.{max_jobs}
use Rattle.job_sets.specs.JobSets.{is_member}
use Rattle.job_sets.proofs.JobSets.{count_without}
use Rattle.prices.proofs.MemberRaises.{raises_start, raises_store, raises_end, least-member}
use Rattle.prices.proofs.smallest.raise_members.Goals as goal
use Rattle.prices.proofs.smallest.raise_members.Goals.{After-way_told-1}

pub loop-rest-init : goal.loop-rest-init
loop-rest-init c = raises_start c.requires

-- within the loop the least of the rest is a member
found : (c : After-way_told-1) → (c.least-job.result < max_jobs) × (is_member c.loop-rest.rest c.least-job.result ≡ true)
found c = least-member c.loop-rest.rest c.least-job.ensures (sym c.is_empty.ensures ∙ not-true _ c.loop-rest-test.true-raw)

pub bounds-highest-job : goal.bounds-highest-job
bounds-highest-job c = (found (goal.at.bounds-highest-job c).After-way_told-1).0

pub bounds-highest-job-in-loop-rest : goal.bounds-highest-job-in-loop-rest
bounds-highest-job-in-loop-rest c = (found (goal.at.bounds-highest-job-in-loop-rest c).After-way_told-1).0

pub without-rest-requires : goal.without-rest-requires
without-rest-requires c = (found (goal.at.without-rest-requires c).After-way_told-1).0

pub loop-rest-smaller : goal.loop-rest-smaller
loop-rest-smaller c =
    rw c.without-rest.ensures (omega (arith, count_without c.loop-rest.rest c.least-job.result (found (goal.at.loop-rest-smaller c).After-way_told-1).1))

pub loop-rest-preserved : goal.loop-rest-preserved
loop-rest-preserved c =
    let so_far = c.loop-rest.invariant in
    let is-found = found (goal.at.loop-rest-preserved c).After-way_told-1 in
    rw (c.without-rest.ensures, c.max.ensures) (raises_store so_far is-found.1 is-found.0)

pub returns : goal.returns
returns c = raises_end c.loop-rest.invariant (sym c.is_empty.ensures ∙ not-false _ c.loop-rest-test.false-raw)
