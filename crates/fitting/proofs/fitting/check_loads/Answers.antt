use mathlib.Core.Path.{◌≡◌}
use mathlib.Core.List.{List}
use Prim.Native.Nat.{ℕ, ◌+◌, ◌-◌, ◌*◌, ◌≤◌, ◌<◌}
use native.Mathlib.Omega.{arith}
use lib.ListN.{get_or}
use borrow.Author.Count.{below_none, below_more}
use borrow.Author.Tests.{le-leb, lt-leb}
use Rattle.std.specs.Prelude.{Some}
use Rattle.model.specs.declared.refusal.Fault.TheVariants.{IntervalLoad}
use Rattle.model.specs.Refusals.{fault_of}
use Rattle.fitting.specs.FirstHalf.{bounds_in, load_fault_in}
use Rattle.fitting.proofs.BoundsIn.{length_in, bounds_rise, capacity_small}
use Rattle.fitting.proofs.Verdicts.{verdict_stops, verdict_passes}
use Rattle.fitting.proofs.fitting.check_loads.Goals as goal

module _ (top : ℕ) (times : List ℕ) (bounds : ℕ) (loads : List ℕ) (i : ℕ) (below : i + 1 < bounds) where
  loaded-past : (get_or times (i + 1) 0 - get_or times i 0) * top < get_or loads i 0 → fault_of (load_fault_in top (bounds_in bounds times) loads i) ≡ Some IntervalLoad
  loaded-past past = rw (length_in bounds times i below, lt-leb (get_or loads i 0) _ past)

  loaded-within : get_or loads i 0 ≤ (get_or times (i + 1) 0 - get_or times i 0) * top → load_fault_in top (bounds_in bounds times) loads i ≡ 0
  loaded-within within = rw (length_in bounds times i below, le-leb (get_or loads i 0) _ within)

pub loop-i-init : goal.loop-i-init
loop-i-init c = (omega arith, below_none _)

pub overflow_add-i : goal.overflow_add-i
overflow_add-i c = omega (arith, c.requires.1.rising.few)

pub bounds-loads-i : goal.bounds-loads-i
bounds-loads-i c = omega (arith, c.requires.1.rising.few)

pub offset_bounds-times-i : goal.offset_bounds-times-i
offset_bounds-times-i c = omega (arith, c.requires.1.rising.few)

pub bounds-times-i : goal.bounds-times-i
bounds-times-i c = omega (arith, c.requires.1.rising.few)

pub offset_bounds-times-i-in-loop-i : goal.offset_bounds-times-i-in-loop-i
offset_bounds-times-i-in-loop-i c = omega (arith, c.requires.1.rising.few)

pub bounds-times-i-in-loop-i : goal.bounds-times-i-in-loop-i
bounds-times-i-in-loop-i c = omega (arith, c.requires.1.rising.few)

pub overflow_sub-times : goal.overflow_sub-times
overflow_sub-times c =
    omega (arith, bounds_rise _ _ c.requires.1 c.loop-i.i (omega arith))

pub overflow_mul-times : goal.overflow_mul-times
overflow_mul-times c =
    omega (arith, capacity_small _ _ c.requires.1 c.loop-i.i (omega arith) _ c.requires.0)

pub returns-then-loads-i : goal.returns-then-loads-i
returns-then-loads-i c =
    let a = c.args in
    rw c.at.ensures
    (verdict_stops _ _ _ _ c.loop-i.invariant.1 (omega arith)
    (loaded-past a.top a.times.now a.bounds a.loads.now c.loop-i.i (omega arith) c.if-loads-i.true))

pub loop-i-preserved : goal.loop-i-preserved
loop-i-preserved c =
    let a = c.args in (
      omega arith,
      below_more _ _ c.loop-i.invariant.1
          (loaded-within a.top a.times.now a.bounds a.loads.now c.loop-i.i (omega arith) c.if-loads-i.false),
    )

pub returns : goal.returns
returns c = verdict_passes _ _ (λ k below. c.loop-i.invariant.1 k (omega arith))
