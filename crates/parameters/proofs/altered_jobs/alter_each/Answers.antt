use mathlib.Core.Path.{◌≡◌, sym, ◌∙◌, ap}
use Prim.Native.Nat.{ℕ, ◌+◌, ◌-◌, ◌≤◌}
use native.Mathlib.Omega.{arith}
use lib.ListN.{get_or}
use borrow.Author.Count.{below_none, below_more}
use Rattle.model.specs.declared.Job.{Job}
use Rattle.model.specs.Limits.{max_jobs}
use Rattle.model.specs.Refusals.{fault_of}
use Rattle.model.specs.SiteParameters.{margin_on, altered_job, altered_fault}
use Rattle.model.proofs.Refusals.{fault_none}
use Rattle.job_tables.proofs.Read.{jobs_count, sound_in}
use Rattle.parameters.proofs.AlteredJobs.{none_altered, next_altered, later_number, altered_number, altered_padded}
use Rattle.parameters.proofs.AlteredJobs.{altering_refused, altered_at, job_refused, jobs_held}
use Rattle.parameters.proofs.altered_jobs.alter_each.Goals as goal
use Rattle.parameters.proofs.altered_jobs.alter_each.Goals.{After-altered_fault, At-loop-j, In-loop-j, Start}

few : (c : Start) → c.args.count ≤ max_jobs
few c = jobs_count _ _ _ _ c.requires.valid_arrays.valid

-- The job of this turn, altered.
abbrev altered : (c : At-loop-j) → Job
altered c =
    let a = c.args in
    altered_at a.count a.free a.margin a.releases.now a.deadlines.now a.cycles.now c.loop-j.j

pub loop-j-init : goal.loop-j-init
loop-j-init c =
    record {
      upto = omega arith;
      sound = below_none _;
      deadlines-are = none_altered _ (few (goal.at.loop-j-init c).Start) _ _ c.requires.valid_arrays.deadlines_past;
      cycles_are = none_altered _ (few (goal.at.loop-j-init c).Start) _ _ c.requires.valid_arrays.cycles_past;
    }

pub offset_bounds-deadlines-j : goal.offset_bounds-deadlines-j
offset_bounds-deadlines-j c = omega (arith, few (goal.at.offset_bounds-deadlines-j c).Start)

pub bounds-deadlines-j : goal.bounds-deadlines-j
bounds-deadlines-j c = omega (arith, few (goal.at.bounds-deadlines-j c).Start)

pub offset_bounds-cycles-j : goal.offset_bounds-cycles-j
offset_bounds-cycles-j c = omega (arith, few (goal.at.offset_bounds-cycles-j c).Start)

pub bounds-cycles-j : goal.bounds-cycles-j
bounds-cycles-j c = omega (arith, few (goal.at.bounds-cycles-j c).Start)

-- its deadline and its cycles, as the arrays still have them, and as they are found
new-deadline : (c : After-altered_fault) → c.earlier-deadline.result ≡ (altered c.before.before.before.before.before.before.before.before.before.before.before).deadline
unfolding altered_job
new-deadline c =
    c.earlier-deadline.ensures
    ∙ ap (λ (n : ℕ). n - c.args.free)
    (later_number c.args.count (few c.before.before.before.before.before.before.before.before.before.before.before.before) _ _ _ c.loop-j.j c.loop-j-test.true c.loop-j.invariant.deadlines-are)

given-cycles : (c : In-loop-j) → get_or c.loop-j.cycles c.loop-j.j 0 ≡ get_or c.args.cycles.now c.loop-j.j 0
given-cycles c =
    later_number c.args.count (few c.before.before) _ _ _ c.loop-j.j c.loop-j-test.true c.loop-j.invariant.cycles_are

new-cycles : (c : After-altered_fault) → c.with_margin-needed.result ≡ (altered c.before.before.before.before.before.before.before.before.before.before.before).cycles
unfolding altered_job
new-cycles c =
    c.with_margin-needed.ensures ∙ ap (λ (n : ℕ). n + margin_on c.args.margin n) (given-cycles c.before.before.before.before.before.before.before.before.before.before)

-- what is found in this turn is its fault
here : (c : After-altered_fault) → c.altered_fault.result ≡ fault_of (altered_fault (altered c.before.before.before.before.before.before.before.before.before.before.before))
unfolding altered_job
here c = c.altered_fault.ensures ∙ ap (λ (job : Job). fault_of (altered_fault job)) (rw (new-deadline c, new-cycles c))

pub with_margin-needed-requires : goal.with_margin-needed-requires
with_margin-needed-requires c =
    let job = sound_in c.args.count c.args.releases.now c.args.deadlines.now c.args.cycles.now c.requires.valid_arrays.valid
    c.loop-j.j c.loop-j-test.true in
    (rw (given-cycles (goal.at.with_margin-needed-requires c).In-loop-j) job.cycles_high, c.requires.free_le_max_free.1)

pub offset_bounds-releases-j : goal.offset_bounds-releases-j
offset_bounds-releases-j c = omega (arith, few (goal.at.offset_bounds-releases-j c).Start)

pub bounds-releases-j : goal.bounds-releases-j
bounds-releases-j c = omega (arith, few (goal.at.bounds-releases-j c).Start)

pub overflow_cast-j : goal.overflow_cast-j
overflow_cast-j c = omega (arith, few (goal.at.overflow_cast-j c).Start)

pub returns-in-Some : goal.returns-in-Some
returns-in-Some c =
    rw c.at.ensures
    (altering_refused
    (job_refused _ _ _ _ _ _ c.requires.free_le_max_free.0 c.requires.free_le_max_free.1 _ _ c.loop-j-test.true c.loop-j.invariant.sound (sym (here (goal.at.returns-in-Some c).After-altered_fault) ∙ c.in-Some.is)))

pub offset_bounds-deadlines-j-in-loop-j : goal.offset_bounds-deadlines-j-in-loop-j
offset_bounds-deadlines-j-in-loop-j c = omega (arith, few (goal.at.offset_bounds-deadlines-j-in-loop-j c).Start)

pub bounds-deadlines-j-in-loop-j : goal.bounds-deadlines-j-in-loop-j
bounds-deadlines-j-in-loop-j c = omega (arith, few (goal.at.bounds-deadlines-j-in-loop-j c).Start)

pub offset_bounds-cycles-j-in-loop-j : goal.offset_bounds-cycles-j-in-loop-j
offset_bounds-cycles-j-in-loop-j c = omega (arith, few (goal.at.offset_bounds-cycles-j-in-loop-j c).Start)

pub bounds-cycles-j-in-loop-j : goal.bounds-cycles-j-in-loop-j
bounds-cycles-j-in-loop-j c = omega (arith, few (goal.at.bounds-cycles-j-in-loop-j c).Start)

pub loop-j-preserved : goal.loop-j-preserved
loop-j-preserved c =
    let inv = c.loop-j.invariant in
    record {
      upto = omega arith;
      sound = below_more _ _ inv.sound (fault_none _ (sym (here (goal.at.loop-j-preserved c).After-altered_fault) ∙ c.in_default.is));
      deadlines-are = next_altered _ (few (goal.at.loop-j-preserved c).Start) _ _ _ _ _ c.loop-j-test.true inv.deadlines-are (new-deadline (goal.at.loop-j-preserved c).After-altered_fault);
      cycles_are = next_altered _ (few (goal.at.loop-j-preserved c).Start) _ _ _ _ _ c.loop-j-test.true inv.cycles_are (new-cycles (goal.at.loop-j-preserved c).After-altered_fault);
    }

pub returns : goal.returns
returns c =
    let inv = c.loop-j.invariant in
    jobs_held _ _ _ _ _ _ c.requires.free_le_max_free.0 c.requires.free_le_max_free.1 _ _ (λ k below. inv.sound k (omega arith))
    (altered_number _ (few (goal.at.returns c).Start) _ _ _ _ c.loop-j-test.false inv.deadlines-are)
    (altered_number _ (few (goal.at.returns c).Start) _ _ _ _ c.loop-j-test.false inv.cycles_are)
    (altered_padded _ (few (goal.at.returns c).Start) _ _ _ _ c.loop-j-test.false inv.cycles_are)
