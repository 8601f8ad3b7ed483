-- The theorem of repeats (document 02, Change 1). It holds for job lists and bounds of any size, whatever idling draws, and for
-- every r: table limits aside.
use Rattle.std.specs.Prelude.{ℕ, ◌+◌, ◌*◌, ◌<◌, ◌≤◌, ◌≡◌, length}
use Rattle.model.specs.Processors.{working_of, top_of}
use Rattle.model.specs.Intervals.{earliest_release, latest_deadline, Bounds}
use Rattle.model.specs.Sites.{Site}
use Rattle.model.specs.Plans.{Shares, Gives}
use Rattle.model.specs.Prices.{PriceList, FittingPrices}
use Rattle.model.specs.Schedules.{Serves}
use Rattle.model.specs.LeastEnergy.{SoundSite, CarriedOut}
use Rattle.model.specs.Accepted.{ScheduleFor, powers_for, gaps_of}
use Rattle.repeats.specs.Repeats.{repeat_shares, repeat_prices, repeat_site, energy_at, energy_of_rounds, RepeatsApart}
use Rattle.repeats.specs.RunAgain.{RunAgain}

module _ (H r : ℕ) (site : Site) (shares : Shares) (prices : PriceList) where
  abbrev repeated : Site
  repeated = repeat_site H r site

  abbrev repeated_shares : Shares
  repeated_shares = repeat_shares H site shares

  -- What holds of a plan, given by its shares, that is repeated r times.
  pub record RepeatedPlan : Type 0 where
    -- the bounds cut the time from the first repeat's earliest release to the last one's latest deadline, as the theory asks
    pub bounds : Bounds repeated.jobs repeated.bounds
    -- each job of each repeat has exactly its cycles between its own release and deadline, and no interval is loaded past
    -- its length × top frequency
    pub gives : Gives (top_of repeated.processor) repeated.jobs repeated.bounds repeated_shares
    -- the repeated prices fit
    pub fitting : FittingPrices (working_of repeated.processor) repeated.jobs repeated.bounds repeated_shares
        (repeat_prices H site.bounds prices)
    -- carried out it is a schedule that meets all deadlines of all repeats, of equal exact energy
    pub carried_out : CarriedOut repeated.processor.idle_power repeated.processor.levels repeated.jobs repeated.bounds
        repeated_shares
    -- slot by slot, that schedule is the plan of the one round, run again every H ticks
    pub run_again : RunAgain H r site shares
    -- no schedule over the same levels that meets all deadlines of all repeats, whatever its q, has less than its exact energy
    pub least : (schedule : ScheduleFor repeated) → Serves schedule
        → schedule.q * energy_at repeated repeated_shares ≤ gaps_of repeated * powers_for repeated schedule
    -- its exact energy is that of the round for each repeat, and what idling draws in the ticks between each two of them
    pub energy : 0 < length site.jobs
        → (between : ℕ) → latest_deadline site.jobs + between ≡ H + earliest_release site.jobs
        → energy_at repeated repeated_shares ≡ energy_of_rounds r site shares between
    -- and 0 where there is no job
    pub no_energy : length site.jobs ≡ 0 → energy_at repeated repeated_shares ≡ 0

-- The theorem of repeats, proved in proofs/Repeats.antt. A site as the theory asks, its bounds the jobs' own or with further
-- ones; a plan for one round and prices that fit it; repeats that do not overlap. Then the repeated plan is a least one.
abbrev pub RoundsRepeat : Type 0
RoundsRepeat =
    (site : Site) → SoundSite site.processor.idle_power site.processor.levels site.jobs → Bounds site.jobs site.bounds
    → (shares : Shares) → Gives (top_of site.processor) site.jobs site.bounds shares
    → (prices : PriceList) → FittingPrices (working_of site.processor) site.jobs site.bounds shares prices
    → (H : ℕ) → RepeatsApart H site.jobs
    → (r : ℕ) → RepeatedPlan H r site shares prices
