use mathlib.Core.Path.{refl}
use Prim.Native.Nat.{ℕ}
use mathlib.Core.List.{List}
use Rattle.model.specs.Plans.{shares_in}
use Rattle.workloads.specs.Workloads.{Workload}
use Rattle.workloads.specs.Arrays.{problem_in, workload_with, Holding}
use Rattle.prices.specs.RisingPrices.{CanPrice, CanRise, CanRiseBy, RisePass}
use Rattle.prices.proofs.RisePasses.{rise_start, rise_again, rise_end}
use Rattle.prices.proofs.smallest.smallest_prices.Goals as goal
use Rattle.prices.proofs.smallest.smallest_prices.Goals.{After-least_prices-arg-1, After-raise_all}

-- a workload with what is lent
abbrev lent : (c : After-least_prices-arg-1) → (cycles : List ℕ) → Workload
lent c cycles =
    let a = c.args in
    workload_with cycles a.jobs a.intervals a.bands a.first.now a.last.now a.size.now a.frequency.now

-- some prices fit
abbrev Priceable : (c : After-least_prices-arg-1) → (cycles table : List ℕ) → Type 0
Priceable c cycles table = CanPrice (lent c cycles) table c.args.loads.now

-- the sets are those of the shares
abbrev Held : (c : After-least_prices-arg-1) → (cycles table : List ℕ) → Type 0
Held c cycles table = Holding (problem_in (lent c cycles)) (shares_in c.args.jobs table) c.args.holders.now

pub least_prices-requires : goal.least_prices-requires
least_prices-requires c =
    let pre = c.requires in
    let sound = pre.arrays_price.2.sound in
    record { intervals_le_max_intervals = (sound.intervals_most, sound.bands_most, pre.prices_len); by_index = (sound.size_most, sound.frequency_most) }

pub loop-init : goal.loop-init
loop-init c = λ cycles table can holding. rise_start can c.least_prices.ensures.0 c.least_prices.ensures.1

-- with the sets that are lent, the prices can rise
by : (c : After-least_prices-arg-1) {cycles table prices : List ℕ} → CanRise (lent c cycles) table prices → Held c cycles table
    → CanRiseBy (lent c cycles) table c.args.holders.now prices c.args.intervals
by c can holding = record { rise = can; holding = holding; intervals_are = refl }

pub raise_all-requires : goal.raise_all-requires
raise_all-requires c = let (cycles, table, can, holding) = c.requires.arrays_price in (lent (goal.at.raise_all-requires c).After-least_prices-arg-1 cycles, table, by (goal.at.raise_all-requires c).After-least_prices-arg-1 (c.loop.invariant cycles table can holding) holding)

-- a pass over the jobs
pass : (c : After-raise_all) (cycles table : List ℕ) → Priceable c.before.before.before.before cycles table
    → Held c.before.before.before.before cycles table
    → RisePass (lent c.before.before.before.before cycles) table c.loop.prices
    c.raise_all.new.prices c.args.jobs c.raise_all.result
pass c cycles table can holding =
    c.raise_all.ensures (lent c.before.before.before.before cycles) table (by c.before.before.before.before (c.loop.invariant cycles table can holding) holding)

pub loop-smaller : goal.loop-smaller
loop-smaller c =
    let (cycles, table, can, holding) = c.requires.arrays_price in
    (pass (goal.at.loop-smaller c).After-raise_all cycles table can holding).falls c.loop-test.true

pub loop-preserved : goal.loop-preserved
loop-preserved c = λ cycles table can holding.
    rise_again (c.loop.invariant cycles table can holding) (pass (goal.at.loop-preserved c).After-raise_all cycles table can holding)

pub returns : goal.returns
returns c =
    let (own, shares, known, holding) = c.requires.arrays_price in (
      λ cycles table can held. rise_end (c.loop.invariant cycles table can held) (pass (goal.at.returns c).After-raise_all cycles table can held) c.loop-test.false,
      (pass (goal.at.returns c).After-raise_all own shares known holding).prices_length,
    )
