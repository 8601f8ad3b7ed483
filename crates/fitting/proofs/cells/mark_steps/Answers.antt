use native.Mathlib.Omega.{arith}
use borrow.Author.Count.{below_none, below_more}
use Rattle.fitting.proofs.StepFaults.{turn_fault, turn_sound, turn_pair, turn_marked}
use Rattle.fitting.proofs.SeenSets.{seen_none, seen_whole}
use Rattle.fitting.proofs.Verdicts.{verdict_stops, verdict_passes, refused_passes}
use Rattle.fitting.proofs.cells.mark_steps.Goals as goal

pub step_count-s-end-requires : goal.step_count-s-end-requires
step_count-s-end-requires c = c.requires.count_le_max_jobs.2

pub loop-s-init : goal.loop-s-init
loop-s-init c = (omega arith, seen_none _ c.requires.no_jobs, below_none _)

pub decode_step-step-requires : goal.decode_step-step-requires
decode_step-step-requires c = (c.requires.count_le_max_jobs.2, omega arith)

pub step_fault-requires : goal.step_fault-requires
step_fault-requires c = (omega arith, omega arith, omega arith)

pub returns-in-Some : goal.returns-in-Some
returns-in-Some c =
    let few = c.requires.count_le_max_jobs in
    record {
      value = rw c.at.ensures
          (verdict_stops _ _ _ _ c.loop-s.invariant.2 (omega arith)
          (turn_fault _ _ _ _ _ _ _ _ _ few.0 few.1 c.loop-s.invariant.1 c.decode_step-step.ensures.0 c.step_fault.ensures _ c.in-Some.is));
      cells_seen = refused_passes;
    }

pub add-requires : goal.add-requires
add-requires c =
    let few = c.requires.count_le_max_jobs in
    let (interval, job, sized) =
    turn_pair _ _ _ _ _ _ _ _ _ few.0 few.1 c.loop-s.invariant.1 c.decode_step-step.ensures.0 c.step_fault.ensures c.in_default.is in
    (omega arith, omega arith, sized)

pub loop-s-preserved : goal.loop-s-preserved
loop-s-preserved c =
    let inv = c.loop-s.invariant in
    let few = c.requires.count_le_max_jobs in (
      omega arith,
      turn_marked _ _ _ _ _ _ _ _ _ few.0 few.1 inv.1 c.decode_step-step.ensures.0 c.step_fault.ensures c.in_default.is _ c.add.ensures,
      below_more _ _ inv.2
          (turn_sound _ _ _ _ _ _ _ _ _ few.0 few.1 inv.1 c.decode_step-step.ensures.0 c.step_fault.ensures c.in_default.is),
    )

pub returns : goal.returns
returns c =
    let inv = c.loop-s.invariant in
    record { value = verdict_passes _ _ (λ k below. inv.2 k (omega arith)); cells_seen = λ passes. seen_whole _ _ inv.1 (omega arith) }
