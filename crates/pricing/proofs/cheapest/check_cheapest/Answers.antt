use mathlib.Core.Path.{◌≡◌, sym, ◌∙◌, ap}
use mathlib.Core.Bool.{Bool, true, false, ◌&&◌}
use mathlib.Core.List.{List}
use Prim.Native.Nat.{ℕ, ◌-◌, ◌<◌}
use native.Mathlib.Omega.{arith}
use lib.ListN.{get_or}
use lib.Dec.{ltb}
use borrow.Author.Count.{below_none, below_more}
use Rattle.std.specs.Prelude.{Some}
use Rattle.model.specs.declared.refusal.Fault.TheVariants.{CheaperInterval}
use Rattle.model.specs.Limits.{max_points, max_jobs}
use Rattle.model.specs.Refusals.{fault_of}
use Rattle.model.specs.Search.{some_below}
use Rattle.model.specs.Steps.{step_at}
use Rattle.walking.specs.declared.steps.Step.{Step}
use Rattle.walking.specs.Walking.{code_step}
use Rattle.job_sets.specs.declared.JobSet.{JobSet}
use Rattle.job_sets.specs.JobSets.{is_member}
use Rattle.job_sets.specs.IntervalSets.{set_in}
use Rattle.pricing.specs.SecondHalf.{priced_sets, cheaper_sets, cheaper_fault_in}
use Rattle.fitting.proofs.Verdicts.{verdict_stops, verdict_passes}
use Rattle.pricing.proofs.PricedSets.{cheaper_has}
use Rattle.pricing.proofs.cheapest.check_cheapest.Goals as goal
use Rattle.pricing.proofs.cheapest.check_cheapest.Goals.{After-cheaper_sets-cheaper, After-decode_step-step}

-- a step held against the set of the jobs that are open at a smaller price
module _ (sets : List ℕ) (bounds : ℕ) (numbers plan : List ℕ) (cheaper : List JobSet) (filled : cheaper ≡ cheaper_sets (priced_sets (bounds - 1) sets numbers))
    (s : ℕ) (step : Step) (decoded : step ≡ code_step (step_at plan s)) (inside : get_or numbers step.interval 0 < max_points) (small : step.job < max_jobs)
    (default : JobSet) (found : Bool) (has : found ≡ is_member (get_or cheaper (get_or numbers step.interval 0) default) step.job) where
  held : found
      ≡ some_below (bounds - 1)
      (λ i. is_member (set_in sets i) (step_at plan s).job && ltb (get_or numbers i 0) (get_or numbers (step_at plan s).interval 0))
  held = has ∙ rw (filled, decoded) (cheaper_has sets numbers (bounds - 1) _ _ default (rw decoded at inside) (rw decoded at small))

  dearer : found ≡ true → fault_of (cheaper_fault_in sets bounds numbers plan s) ≡ Some CheaperInterval
  dearer e = rw (sym held ∙ e)

  not-dearer : found ≡ false → cheaper_fault_in sets bounds numbers plan s ≡ 0
  not-dearer e = rw (sym held ∙ e)

pub priced_sets-priced-requires : goal.priced_sets-priced-requires
priced_sets-priced-requires c = (omega arith, c.requires.by_index)

-- the sets of the smaller prices
filled : (c : After-cheaper_sets-cheaper)
    → let a = c.args in
    c.cheaper_sets-cheaper.result ≡ cheaper_sets (priced_sets (a.bounds - 1) a.sets.now a.numbers.now)
filled c = c.cheaper_sets-cheaper.ensures ∙ rw c.priced_sets-priced.ensures

pub step_count-s-end-requires : goal.step_count-s-end-requires
step_count-s-end-requires c = c.requires.bounds_le_max_bounds.1

pub loop-s-init : goal.loop-s-init
loop-s-init c = (omega arith, below_none _)

pub decode_step-step-requires : goal.decode_step-step-requires
decode_step-step-requires c = (c.requires.bounds_le_max_bounds.1, omega arith)

-- the step of this turn has an interval, and that has a price
placed : (c : After-decode_step-step)
    → c.decode_step-step.result.interval < c.args.bounds - 1
placed c =
    omega (
      arith,
      ap (λ (t : Step). t.interval) c.decode_step-step.ensures.0,
      c.requires.by_index_2 c.loop-s.s (omega arith),
    )

inside : (c : After-decode_step-step)
    → get_or c.args.numbers.now c.decode_step-step.result.interval 0 < max_points
inside c = c.requires.by_index _ (placed c)

pub offset_bounds-numbers-interval : goal.offset_bounds-numbers-interval
offset_bounds-numbers-interval c = omega (arith, placed (goal.at.offset_bounds-numbers-interval c).After-decode_step-step)

pub bounds-numbers-interval : goal.bounds-numbers-interval
bounds-numbers-interval c = omega (arith, placed (goal.at.bounds-numbers-interval c).After-decode_step-step)

pub offset_bounds-cheaper-price : goal.offset_bounds-cheaper-price
offset_bounds-cheaper-price c = omega (arith, inside (goal.at.offset_bounds-cheaper-price c).After-decode_step-step)

pub bounds-cheaper-price : goal.bounds-cheaper-price
bounds-cheaper-price c = inside (goal.at.bounds-cheaper-price c).After-decode_step-step

pub returns-then-has : goal.returns-then-has
returns-then-has c =
    let a = c.args in
    rw c.at.ensures
    (verdict_stops _ _ _ _ c.loop-s.invariant.1 (omega arith)
    (dearer a.sets.now a.bounds a.numbers.now a.plan.now _ (filled (goal.at.returns-then-has c).After-cheaper_sets-cheaper) _ _ c.decode_step-step.ensures.0 (inside (goal.at.returns-then-has c).After-decode_step-step) c.decode_step-step.ensures.2 _ _ c.has.ensures c.if-has.true))

pub loop-s-preserved : goal.loop-s-preserved
loop-s-preserved c =
    let a = c.args in (
      omega arith,
      below_more _ _ c.loop-s.invariant.1
          (not-dearer a.sets.now a.bounds a.numbers.now a.plan.now _ (filled (goal.at.loop-s-preserved c).After-cheaper_sets-cheaper) _ _ c.decode_step-step.ensures.0 (inside (goal.at.loop-s-preserved c).After-decode_step-step) c.decode_step-step.ensures.2 _ _ c.has.ensures c.if-has.false),
    )

pub returns : goal.returns
returns c = verdict_passes _ _ (λ k below. c.loop-s.invariant.1 k (omega arith))
