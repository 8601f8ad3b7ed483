use mathlib.Core.Path.{◌≡◌, refl, sym, ◌∙◌}
use mathlib.Core.List.{List}
use Prim.Native.Nat.{ℕ, ◌+◌, ◌<◌, ◌^◌}
use native.Mathlib.Omega.{arith}
use lib.ListN.{length, take, length-append, length-replicate, length-set, length-take}
use Rattle.model.specs.Limits.{max_bounds}
use Rattle.model.proofs.Sum.{sum_longer}
use Rattle.workloads.specs.Arrays.{numbers_in}
use Rattle.workloads.proofs.StoredNumbers.{zeros}
use Rattle.due_cycles.specs.Due.{due_at}
use Rattle.due_cycles.proofs.DueSums.{due_none, due_take, due_most, due_store}
use Rattle.std.proofs.Common.{rules}
use Rattle.std.proofs.lemmas.List.{get_or-take}
use Rattle.std.proofs.lemmas.Slice.Zip.{zip_turn, zip_end}
use Rattle.due_cycles.proofs.add_due.Goals as goal
use Rattle.due_cycles.proofs.add_due.Goals.{In-Some}

pub loop-bound-init : goal.loop-bound-init
loop-bound-init c =
    let a = c.args in
    let start = c.requires.due_value in (
      (tt, tt),
      tt,
      rw start (length-replicate {A = ℕ} max_bounds 0),
      λ b. rw start (zeros max_bounds b) ∙ sym (due_none (numbers_in a.last.now) (numbers_in a.cycles.now) b),
    )

-- what this turn knows: its pair is the next job's, there is a place for its bound, and what is due there with its cycles fits 32 bits
record Turn (job bound amount : ℕ) (last cycles : ℕ → ℕ) (due : List ℕ) : Type 0 where
  pub bound-is : bound ≡ last job
  pub bound-small : bound < max_bounds
  pub next : numbers_in due bound + amount ≡ due_at (job + 1) last cycles bound
  pub next_small : numbers_in due bound + amount < 2 ^ 32

turn-knows : (c : In-Some) → let a = c.args in
    Turn (length c.loop-bound.yielded) c.in-Some.field-0-0.now c.in-Some.field-0-1.now (numbers_in a.last.now) (numbers_in a.cycles.now) c.loop-bound.due
turn-knows c =
    let a = c.args in
    let known = c.requires.jobs_le_max_jobs in
    let last = numbers_in a.last.now in
    let cycles = numbers_in a.cycles.now in
    let job = length c.loop-bound.yielded in
    let (inside, inside-cycles, is-last, is-cycles) =
    zip_turn (take a.jobs a.last.now) (take a.jobs a.cycles.now) c.loop-bound.yielded c.into_iter-bound-iterator.result c.loop-bound.bound-iterator c.next.new.self c.next.result
    (search rules) (search rules) c.loop-bound.yielded_by (c.in-Some.field-0-0, c.in-Some.field-0-1) c.in-Some.is c.next.ensures.steps in
    let below : job < a.jobs = omega (arith, inside, length-take a.jobs a.last.now) in
    let bound-is : c.in-Some.field-0-0.now ≡ last job = is-last 0 ∙ get_or-take a.jobs a.last.now job 0 below in
    let amount-is : c.in-Some.field-0-1.now ≡ cycles job = is-cycles 0 ∙ get_or-take a.jobs a.cycles.now job 0 below in
    let more = sum_longer {k = job + 1} {n = a.jobs} cycles (omega (arith, below)) in
    let is-next : numbers_in c.loop-bound.due (last job) + cycles job ≡ due_at (job + 1) last cycles (last job) =
    omega (arith, c.loop-bound.invariant.3 (last job), due_take last cycles (last job) job refl) in
    rw (bound-is, amount-is) record {
      bound-is = refl;
      bound-small = omega (arith, known.2 job below);
      next = is-next;
      next_small = omega (arith, known.1, due_most (job + 1) last cycles (last job), more);
    }

pub overflow_cast-due : goal.overflow_cast-due
overflow_cast-due c = omega (arith, (turn-knows (goal.at.overflow_cast-due c).In-Some).next_small)

pub bounds-due-bound : goal.bounds-due-bound
bounds-due-bound c = (turn-knows (goal.at.bounds-due-bound c).In-Some).bound-small

pub overflow_add-due : goal.overflow_add-due
overflow_add-due c = omega (arith, (turn-knows (goal.at.overflow_add-due c).In-Some).next_small)

pub bounds-due-bound-in-loop-bound : goal.bounds-due-bound-in-loop-bound
bounds-due-bound-in-loop-bound c = (turn-knows (goal.at.bounds-due-bound-in-loop-bound c).In-Some).bound-small

pub loop-bound-preserved : goal.loop-bound-preserved
loop-bound-preserved c =
    let turn = turn-knows (goal.at.loop-bound-preserved c).In-Some in
    let a = c.args in
    let inv = c.loop-bound.invariant in
    let last = numbers_in a.last.now in
    let cycles = numbers_in a.cycles.now in
    let job = length c.loop-bound.yielded in
    let inside : last job < length c.loop-bound.due = omega (arith, turn.bound-small, turn.bound-is, inv.2) in (
      (tt, tt),
      tt,
      length-set c.loop-bound.due _ _ ∙ inv.2,
      rw (turn.bound-is, length-append c.loop-bound.yielded _) (due_store last cycles job c.loop-bound.due _ inside inv.3 (rw turn.bound-is at turn.next)),
    )

pub returns : goal.returns
returns c =
    let a = c.args in
    let all =
    zip_end (take a.jobs a.last.now) (take a.jobs a.cycles.now) c.loop-bound.yielded c.into_iter-bound-iterator.result c.loop-bound.bound-iterator c.next.new.self c.next.result
    (search rules) (search rules) c.loop-bound.yielded_by c.in-None.is c.next.ensures.steps in
    let done : length c.loop-bound.yielded ≡ a.jobs = omega (arith, all, length-take a.jobs a.last.now, length-take a.jobs a.cycles.now, c.requires.jobs_le_max_jobs) in
    (c.loop-bound.invariant.2, rw done at c.loop-bound.invariant.3)
