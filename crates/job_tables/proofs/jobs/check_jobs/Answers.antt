use mathlib.Core.List.{List}
use mathlib.Core.Path.{◌≡◌, ◌∙◌, sym, ap}
use Prim.Native.Nat.{ℕ, ◌<◌}
use native.Mathlib.Omega.{arith}
use lib.ListN.{get_or}
use borrow.Author.Count.{below_none, below_more}
use Rattle.std.specs.Prelude.{Err}
use Rattle.model.specs.declared.Job.{Job}
use Rattle.model.specs.Refusals.{fault_of}
use Rattle.model.specs.Jobs.{job_of, fault_of_job, job_fault}
use Rattle.model.proofs.Entries.{length_list_of, get_d_list_of}
use Rattle.model.proofs.Refusals.{fault_none}
use Rattle.reading.proofs.ByEntry.{reading_stops, reading_passes}
use Rattle.job_tables.specs.Tables.{jobs_in}
use Rattle.job_tables.proofs.jobs.check_jobs.Goals as goal
use Rattle.job_tables.proofs.jobs.check_jobs.Goals.{After-job_fault}

-- entry i, as the arrays have it
entry : (count : ℕ) (releases deadlines cycles : List ℕ) (i : ℕ) → i < count
    → job_of (jobs_in count releases deadlines cycles) i ≡ record { release = get_or releases i 0; deadline = get_or deadlines i 0; cycles = get_or cycles i 0 }
unfolding jobs_in
entry count releases deadlines cycles i below = get_d_list_of count _ i _ below

pub loop-i-init : goal.loop-i-init
loop-i-init c = (omega arith, below_none _)

-- what is found in this turn is the entry's fault
here : (c : After-job_fault)
    → c.job_fault.result
    ≡ fault_of (job_fault
    (jobs_in
    c.args.count
    c.args.releases.now
    c.args.deadlines.now
    c.args.cycles.now)
    c.loop-i.i)
here c = c.job_fault.ensures ∙ ap (λ (job : Job). fault_of (fault_of_job job)) (sym (entry _ _ _ _ _ c.loop-i-test.true))

pub returns-in-Some : goal.returns-in-Some
returns-in-Some c =
    ap Err c.at.ensures
    ∙ reading_stops _ _ _ _ _ c.loop-i.invariant.1 (omega arith) (sym (here (goal.at.returns-in-Some c).After-job_fault) ∙ c.in-Some.is)

pub loop-i-preserved : goal.loop-i-preserved
loop-i-preserved c =
    (omega arith, below_more _ _ c.loop-i.invariant.1 (fault_none _ (sym (here (goal.at.loop-i-preserved c).After-job_fault) ∙ c.in_default.is)))

pub returns : goal.returns
unfolding jobs_in
returns c = reading_passes _ _ _ (λ k below. c.loop-i.invariant.1 k (omega arith)) (length_list_of _ _)
