use mathlib.Core.Path.{◌∙◌, ap}
use native.Mathlib.Omega.{arith}
use borrow.Author.Rules.{rules}
use Rattle.model.specs.Limits.{max_intervals, max_jobs}
use Rattle.walking.specs.declared.steps.Step.{Step}
use Rattle.fitting.proofs.Tallies.{tally_none, tally_more, tally_past, tally_whole, cycles_room}
use Rattle.fitting.proofs.sums.add_steps.Goals as goal
use Rattle.fitting.proofs.sums.add_steps.Goals.{then-interval-lt-MAX_INTERVALS, else-interval-lt-MAX_INTERVALS}

pub step_count-s-end-requires : goal.step_count-s-end-requires
step_count-s-end-requires c = c.requires.plan_len

pub loop-s-init : goal.loop-s-init
loop-s-init c = let zeros = c.requires.sums_value in (omega arith, zeros.0 ∙ tally_none max_jobs _ _, zeros.1 ∙ tally_none max_intervals _ _)

pub decode_step-step-requires : goal.decode_step-step-requires
decode_step-step-requires c = (c.requires.plan_len, omega arith)

pub overflow_add-sums : goal.overflow_add-sums
overflow_add-sums c =
    record {
      fits =
          cycles_room _ (λ place. search rules) max_jobs
          _ _ _ _ _ c.loop-s.invariant.1 (omega arith) (omega arith) c.decode_step-step.ensures.3;
    }

pub overflow_add-loads : goal.overflow_add-loads
overflow_add-loads c =
    record {
      fits =
          cycles_room _ (λ place. search rules) max_intervals
          _ _ _ _ _ c.loop-s.invariant.2 (omega arith) (omega arith) c.decode_step-step.ensures.3;
    }

pub loop-s-preserved : goal.loop-s-preserved
loop-s-preserved c =
    let inv = c.loop-s.invariant in
    let decoded = c.decode_step-step.ensures.0 in
    let interval = ap (λ (t : Step). t.interval) decoded in
    let cycles = ap (λ (t : Step). t.cycles) decoded in (
      omega arith,
      tally_more max_jobs _ _ _ _ _ _ inv.1 (ap (λ (t : Step). t.job) decoded) cycles (omega arith),
      elim c.if-interval-lt-MAX_INTERVALS.branch [
        | then-interval-lt-MAX_INTERVALS w ↦ w.loads-is ∙ tally_more max_intervals _ _ _ _ _ _ inv.2 interval cycles w.if-interval-lt-MAX_INTERVALS.true
        | else-interval-lt-MAX_INTERVALS w ↦ w.loads-is ∙ tally_past max_intervals _ _ _ _ _ inv.2 interval w.if-interval-lt-MAX_INTERVALS.false
      ],
    )

pub returns : goal.returns
returns c = (
  tally_whole max_jobs _ _ _ _ _ (omega arith) (omega arith) c.loop-s.invariant.1,
  tally_whole max_intervals _ _ _ _ _ (omega arith) (omega arith) c.loop-s.invariant.2,
)
