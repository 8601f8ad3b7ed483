-- `cells::step_fault` meets its contract. Each way out rests on the tests that led there, by the laws of
-- proofs/StepFaults.antt. Assumes nothing.
use mathlib.Core.Path.{sym, ◌∙◌, ap}
use native.Mathlib.Omega.{arith}
use Rattle.model.specs.Refusals.{fault_of}
use Rattle.fitting.proofs.StepFaults.{no_interval, no-job, shut_pair, marked_pair, no_cycles, many_cycles, sound_step}
use Rattle.fitting.proofs.cells.step_fault.Goals as goal

pub returns-then-bounds-interval : goal.returns-then-bounds-interval
returns-then-bounds-interval c = ap fault_of (no_interval _ _ _ _ _ _ c.if-bounds-interval.true)

pub returns-then-count-job : goal.returns-then-count-job
returns-then-count-job c = ap fault_of (no-job _ _ _ _ _ _ c.if-bounds-interval.false c.if-count-job.true)

pub returns-then-not-holds : goal.returns-then-not-holds
returns-then-not-holds c =
    ap fault_of (shut_pair _ _ _ _ _ _ (omega arith) (omega arith) (sym c.holds.ensures ∙ c.if-not-holds.true))

pub returns-then-holds : goal.returns-then-holds
returns-then-holds c =
    ap fault_of
    (marked_pair _ _ _ _ _ _ (omega arith) (omega arith)
    (sym c.holds.ensures ∙ c.if-not-holds.false)
    (sym c.holds-2.ensures ∙ c.if-holds.true))

pub returns-then-step-lt1 : goal.returns-then-step-lt1
returns-then-step-lt1 c =
    ap fault_of
    (no_cycles _ _ _ _ _ _ (omega arith) (omega arith)
    (sym c.holds.ensures ∙ c.if-not-holds.false)
    (sym c.holds-2.ensures ∙ c.if-holds.false)
    c.if-step-lt1.true)

pub returns-then-step-cycles : goal.returns-then-step-cycles
returns-then-step-cycles c =
    ap fault_of
    (many_cycles _ _ _ _ _ _ (omega arith) (omega arith)
    (sym c.holds.ensures ∙ c.if-not-holds.false)
    (sym c.holds-2.ensures ∙ c.if-holds.false)
    (omega arith)
    c.if-step-cycles.true)

pub returns : goal.returns
returns c =
    ap fault_of
    (sound_step _ _ _ _ _ _ (omega arith) (omega arith)
    (sym c.holds.ensures ∙ c.if-not-holds.false)
    (sym c.holds-2.ensures ∙ c.if-holds.false)
    (omega arith)
    c.if-step-cycles.false)
