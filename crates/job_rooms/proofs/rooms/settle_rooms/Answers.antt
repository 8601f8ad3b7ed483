use mathlib.Core.Path.{◌≡◌, refl, sym, ◌∙◌}
use mathlib.Core.Bool.{false}
use mathlib.Core.List.{List}
use Prim.Native.Nat.{ℕ, ◌^◌, ◌<◌, ◌≤◌}
use lib.ListN.{get_or}
use Rattle.model.specs.Limits.{max_jobs, max_bounds}
use Rattle.job_sets.specs.JobSets.{is_empty, least_member}
use Rattle.job_rooms.proofs.SettleSteps.{settling_first, settling_done, least_few, end_few, end_small, cycles_small, due_enough, fewer, settling_next}
use native.Mathlib.Omega.{arith}
use Rattle.job_rooms.proofs.rooms.settle_rooms.Goals as goal
use Rattle.job_rooms.proofs.rooms.settle_rooms.Goals.{In-loop-rest}

pub loop-rest-init : goal.loop-rest-init
loop-rest-init c = settling_first c.requires.can_settle _ _ c.requires.due_len.0 c.requires.due_len.1

-- within the loop some job is left
some : (c : In-loop-rest) → is_empty c.loop-rest.rest ≡ false
some c = sym c.is_empty.ensures ∙ c.loop-rest-test.true

-- what this turn knows of the least of them
record Turn (last cycles due : List ℕ) (intervals job : ℕ) : Type 0 where
  pub job-few : job < max_jobs
  pub end_in : get_or last job 0 ≤ intervals
  pub end_fits : get_or last job 0 < max_bounds
  pub cycles_fit : get_or cycles job 0 < 2 ^ 32
  pub enough : get_or cycles job 0 ≤ get_or due (get_or last job 0) 0
  pub few : intervals < max_bounds

turn-knows : (c : In-loop-rest) (job : ℕ) → job ≡ least_member c.loop-rest.rest
    → Turn c.args.last.now c.args.cycles.now c.loop-rest.due c.args.intervals job
turn-knows c job least =
    let can = c.requires.can_settle in
    record {
      job-few = least_few can _ _ c.loop-rest.invariant (some c) _ least;
      end_in = end_few can _ _ c.loop-rest.invariant (some c) _ least;
      end_fits = end_small can _ _ c.loop-rest.invariant (some c) _ least;
      cycles_fit = cycles_small can _ _ c.loop-rest.invariant (some c) _ least;
      enough = due_enough can _ _ c.loop-rest.invariant (some c) _ least;
      few = omega (arith, can.few);
    }

pub bounds-last-job : goal.bounds-last-job
bounds-last-job c = (turn-knows (goal.at.bounds-last-job c).In-loop-rest _ c.least-job.ensures).job-few

pub overflow_cast-end : goal.overflow_cast-end
overflow_cast-end c = omega (arith, (turn-knows (goal.at.overflow_cast-end c).In-loop-rest _ c.least-job.ensures).end_fits)

pub least_among-requires : goal.least_among-requires
least_among-requires c = ((turn-knows (goal.at.least_among-requires c).In-loop-rest _ c.least-job.ensures).end_in, (turn-knows (goal.at.least_among-requires c).In-loop-rest _ c.least-job.ensures).few)

pub offset_bounds-rooms-job : goal.offset_bounds-rooms-job
offset_bounds-rooms-job c = omega (arith, (turn-knows (goal.at.offset_bounds-rooms-job c).In-loop-rest _ c.least-job.ensures).job-few)

pub bounds-rooms-job : goal.bounds-rooms-job
bounds-rooms-job c = (turn-knows (goal.at.bounds-rooms-job c).In-loop-rest _ c.least-job.ensures).job-few

pub offset_bounds-cycles-job : goal.offset_bounds-cycles-job
offset_bounds-cycles-job c = omega (arith, (turn-knows (goal.at.offset_bounds-cycles-job c).In-loop-rest _ c.least-job.ensures).job-few)

pub bounds-cycles-job : goal.bounds-cycles-job
bounds-cycles-job c = (turn-knows (goal.at.bounds-cycles-job c).In-loop-rest _ c.least-job.ensures).job-few

pub overflow_cast-due : goal.overflow_cast-due
overflow_cast-due c = omega (arith, (turn-knows (goal.at.overflow_cast-due c).In-loop-rest _ c.least-job.ensures).cycles_fit)

pub offset_bounds-due-end : goal.offset_bounds-due-end
offset_bounds-due-end c = omega (arith, (turn-knows (goal.at.offset_bounds-due-end c).In-loop-rest _ c.least-job.ensures).end_fits)

pub bounds-due-end : goal.bounds-due-end
bounds-due-end c = (turn-knows (goal.at.bounds-due-end c).In-loop-rest _ c.least-job.ensures).end_fits

pub overflow_sub-due : goal.overflow_sub-due
overflow_sub-due c = (turn-knows (goal.at.overflow_sub-due c).In-loop-rest _ c.least-job.ensures).enough

pub bounds-due-end-in-loop-rest : goal.bounds-due-end-in-loop-rest
bounds-due-end-in-loop-rest c = (turn-knows (goal.at.bounds-due-end-in-loop-rest c).In-loop-rest _ c.least-job.ensures).end_fits

pub without-rest-requires : goal.without-rest-requires
without-rest-requires c = (turn-knows (goal.at.without-rest-requires c).In-loop-rest _ c.least-job.ensures).job-few

pub loop-rest-smaller : goal.loop-rest-smaller
loop-rest-smaller c =
    fewer c.requires.can_settle _ _ c.loop-rest.invariant (some (goal.at.loop-rest-smaller c).In-loop-rest) _ c.least-job.ensures _ c.without-rest.ensures

pub loop-rest-preserved : goal.loop-rest-preserved
loop-rest-preserved c =
    settling_next c.requires.can_settle _ _ c.loop-rest.invariant (some (goal.at.loop-rest-preserved c).In-loop-rest) _ c.least-job.ensures _ _ c.least_among.ensures refl _ c.without-rest.ensures

pub returns : goal.returns
returns c = settling_done c.requires.can_settle _ _ c.loop-rest.invariant (sym c.is_empty.ensures ∙ c.loop-rest-test.false)
