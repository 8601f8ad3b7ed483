-- The tests for what touches a span say what is meant, tick by tick: a job is open at some tick of the span; every tick at which a
-- job is open lies in the span; an interval and the span have a tick in common.
-- Assumes nothing.
use mathlib.Core.Path.{◌≡◌}
use mathlib.Core.Bool.{true}
use mathlib.Core.Logic.{◌↔◌}
use mathlib.Core.List.{List}
use Prim.Native.Nat.{ℕ, suc, ◌-◌, ◌<◌, ◌≤◌, max}
use native.Mathlib.Omega.{arith}
use lib.Dec.{ltb, leb}
use borrow.Author.Tests.{ltb-true, leb-true, lt-ltb, le-leb}
use Rattle.model.specs.declared.Job.{Job}
use Rattle.model.specs.Intervals.{bound_at}
use Rattle.model.specs.Windows.{is_inside}
use Rattle.model.proofs.Numbers.{both_true}
use Rattle.spans.specs.Spans.{opens_within, shares_tick}

-- A tick lies in a stretch from one time up to, not including, another.
abbrev pub Within : (from upto tick : ℕ) → Type 0
Within from upto tick = (from ≤ tick) × (tick < upto)

-- Two stretches that are not empty have a tick in common exactly when each begins before the other ends.
pub common_tick : (start end from upto : ℕ) → start < end → from < upto
    → ((from < end) × (start < upto)) ↔ ((tick : ℕ) × Within start end tick × Within from upto tick)
common_tick start end from upto some wide = (
  λ h. (max start from, (omega arith, omega arith), (omega arith, omega arith)),
  λ (tick, in_span, in-other). (omega arith, omega arith),
)

module _ (start end : ℕ) where
  pub inside_ticks : (job : Job) → job.release < job.deadline
      → (is_inside start end job ≡ true) ↔ ((tick : ℕ) → Within job.release job.deadline tick → Within start end tick)
  inside_ticks job wide = (
    λ e tick in_window.
        let h = both_true (leb start job.release) _ e in
        let low = leb-true start job.release h.0 in
        let high = leb-true job.deadline end h.1 in
        (omega arith, omega arith),
    λ all.
        let first = all job.release (omega arith, omega arith) in
        let last = all (job.deadline - 1) (omega arith, omega arith) in
        let high : job.deadline ≤ end = omega arith in
        rw (le-leb start job.release first.0, le-leb job.deadline end high),
  )

  module _ (some : start < end) where
    pub opens_ticks : (job : Job) → job.release < job.deadline
        → (opens_within start end job ≡ true) ↔ ((tick : ℕ) × Within start end tick × Within job.release job.deadline tick)
    opens_ticks job wide =
        let common = common_tick start end job.release job.deadline some wide in (
          λ e.
              let h = both_true (ltb job.release end) _ e in
              common.0 (ltb-true _ _ h.0, ltb-true _ _ h.1),
          λ shared. let h = common.1 shared in rw (lt-ltb _ _ h.0, lt-ltb _ _ h.1),
        )

    pub shares_ticks : (bounds : List ℕ) (i : ℕ) → bound_at bounds i < bound_at bounds (suc i)
        → (shares_tick start end bounds i ≡ true) ↔ ((tick : ℕ) × Within start end tick × Within (bound_at bounds i) (bound_at bounds (suc i)) tick)
    shares_ticks bounds i wide =
        let common = common_tick start end (bound_at bounds i) (bound_at bounds (suc i)) some wide in (
          λ e.
              let h = both_true (ltb (bound_at bounds i) end) _ e in
              common.0 (ltb-true _ _ h.0, ltb-true _ _ h.1),
          λ shared. let h = common.1 shared in rw (lt-ltb _ _ h.0, lt-ltb _ _ h.1),
        )
