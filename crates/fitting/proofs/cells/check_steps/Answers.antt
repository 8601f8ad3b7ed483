-- `cells::check_steps` meets its contract: the length, the number of intervals, and then the steps one after another.
-- Assumes nothing.
use mathlib.Core.Path.{◌≡◌, sym, ◌∙◌}
use mathlib.Core.Bool.{false}
use Prim.Native.Nat.{◌+◌, ◌-◌, ◌*◌}
use native.Mathlib.Omega.{arith}
use lib.ListN.{length}
use borrow.Author.Tests.{eq-eqb, ne_eqb}
use Rattle.model.specs.Steps.{plan_intervals, step_count, wrong_plan_length}
use Rattle.model.proofs.Faults.{plan-length}
use Rattle.fitting.specs.FirstHalf.{stepping_in}
use Rattle.fitting.proofs.Verdicts.{refused_passes}
use Rattle.fitting.proofs.cells.check_steps.Goals as goal
use Rattle.fitting.proofs.cells.check_steps.Goals.{Else-wrong_length}

pub returns-then-wrong_length : goal.returns-then-wrong_length
unfolding stepping_in
returns-then-wrong_length c = record { value = rw (c.at.ensures, sym c.wrong_length.ensures ∙ c.if-wrong_length.true); cells_seen = refused_passes }

-- past the refusal 15 the plan has the right length
right : (c : Else-wrong_length) → wrong_plan_length c.args.plan.now ≡ false
right c = sym c.wrong_length.ensures ∙ c.if-wrong_length.false

size : (c : Else-wrong_length) → length c.args.plan.now ≡ 4 + 6 * step_count c.args.plan.now
size c = (plan-length _).0 (right c)

pub number16-requires : goal.number16-requires
number16-requires c = omega (arith, size (goal.at.number16-requires c).Else-wrong_length)

pub returns-then-number16-interval_count : goal.returns-then-number16-interval_count
unfolding stepping_in
returns-then-number16-interval_count c =
    let a = c.args in
    let other : plan_intervals a.plan.now ≡ a.bounds - 1 → ⊥ =
    λ e. c.if-number16-interval_count.true (c.number16.ensures.0 ∙ e ∙ sym c.interval_count.ensures) in
    record { value = rw (c.at-then-number16-interval_count.ensures, right (goal.at.returns-then-number16-interval_count c).Else-wrong_length, ne_eqb (plan_intervals a.plan.now) (a.bounds - 1) other); cells_seen = refused_passes }

pub mark_steps-requires : goal.mark_steps-requires
mark_steps-requires c =
    record { count_le_max_jobs = (c.requires.0, c.requires.1, size (goal.at.mark_steps-requires c).Else-wrong_length); no_jobs = c.requires.2 }

pub returns : goal.returns
unfolding stepping_in
returns c =
    let a = c.args in
    let same : plan_intervals a.plan.now ≡ a.bounds - 1 = sym c.number16.ensures.0 ∙ c.if-number16-interval_count.false ∙ c.interval_count.ensures in record {
      value = c.mark_steps.ensures.value
          ∙ rw (right (goal.at.returns c).Else-wrong_length, eq-eqb (plan_intervals a.plan.now) (a.bounds - 1) same);
      cells_seen = c.mark_steps.ensures.cells_seen;
    }
