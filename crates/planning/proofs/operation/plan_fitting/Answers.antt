-- `operation::plan_fitting` meets its contract: each way out is one of planning a site (proofs/PlanStages.antt).
-- Assumes nothing.
use mathlib.Core.Path.{◌≡◌, ◌∙◌}
use Prim.Native.Nat.{ℕ, ◌-◌, ◌≤◌}
use lib.ListN.{length}
use Rattle.std.proofs.lemmas.Result.{err_from_is_err_and}
use Rattle.model.specs.Sites.{Site}
use Rattle.model.specs.Demands.{LongEnough}
use Rattle.rooms.specs.WantedRooms.{OpenIn, WantedRooms}
use Rattle.planning.specs.MadePlans.{FitsIn}
use Rattle.planning.proofs.SiteArrays.{intervals_counted}
use Rattle.planning.proofs.PlanStages.{short_room, enough_room, plan_short, prices_short, shares_short, plan_made}
use Rattle.planning.proofs.operation.plan_fitting.Goals as goal
use Rattle.planning.proofs.operation.plan_fitting.Goals.{Start}

-- a site that stands in what the function is lent
abbrev Lent : (c : Start) → Site → Type 0
Lent c site =
    FitsIn site c.args.site c.args.cycles.now c.args.times.now c.args.first.now c.args.last.now c.args.«open».now

-- its open sets
open_in : (c : Start) (site : Site) → Lent c site → (intervals : ℕ) → intervals ≡ c.args.site.bounds - 1
    → OpenIn site c.args.site.jobs intervals c.args.«open».now
open_in c site lent intervals counted =
    let held = lent.in_arrays in
    record {
      valid = held.valid;
      jobs_are = held.jobs_counted;
      intervals_are = counted ∙ intervals_counted held;
      open_are = held.open_are;
    }

-- past the lengths wanted the buffers are long enough
enough : (c : Start) (site : Site) (plan prices shares : ℕ) → WantedRooms site plan prices shares
    → plan ≤ length c.args.plan.now → prices ≤ length c.args.prices.now → shares ≤ length c.args.shares.now
    → LongEnough site (length c.args.plan.now) (length c.args.prices.now) (length c.args.shares.now)
enough c site plan prices shares rooms fits_plan fits_prices fits_shares =
    record {
      plan-room = rw (← rooms.plan_is) fits_plan;
      price-room = rw (← rooms.prices_are) fits_prices;
      share-room = rw (← rooms.shares_are) fits_shares;
    }

pub rooms_of-rooms-requires : goal.rooms_of-rooms-requires
rooms_of-rooms-requires c =
    let (site, lent) = c.requires in
    (site, open_in (goal.at.rooms_of-rooms-requires c).Start site lent _ c.interval_count.ensures)

-- the lengths wanted are those of refusals 12 to 14
pub room_for-requires : goal.room_for-requires
room_for-requires c =
    let (site, lent) = c.requires in
    (c.rooms_of-rooms.ensures site (open_in (goal.at.room_for-requires c).Start site lent _ c.interval_count.ensures)).plan_fits

pub returns-in_err-room_for : goal.returns-in_err-room_for
returns-in_err-room_for c = λ site lent.
    let rooms = c.rooms_of-rooms.ensures site (open_in (goal.at.returns-in_err-room_for c).Start site lent _ c.interval_count.ensures) in
    let passed = err_from_is_err_and c.from_residual.result c.from_residual.ensures.1 in
    let short = short_room _ _ c.room_for.ensures _ c.in_err-room_for.was in
    rw (passed.1, passed.2, short.1) (plan_short site _ lent.fits _ rooms.plan_is short.0)

pub room_for-requires-2 : goal.room_for-requires-2
room_for-requires-2 c =
    let (site, lent) = c.requires in
    (c.rooms_of-rooms.ensures site (open_in (goal.at.room_for-requires-2 c).Start site lent _ c.interval_count.ensures)).prices_fit

pub returns-in_err-room_for-2 : goal.returns-in_err-room_for-2
returns-in_err-room_for-2 c = λ site lent.
    let rooms = c.rooms_of-rooms.ensures site (open_in (goal.at.returns-in_err-room_for-2 c).Start site lent _ c.interval_count.ensures) in
    let passed = err_from_is_err_and c.from_residual-in_err-room_for-2.result c.from_residual-in_err-room_for-2.ensures.1 in
    let short = short_room _ _ c.room_for-2.ensures _ c.in_err-room_for-2.was in
    rw (passed.1, passed.2, short.1) (prices_short site _ lent.fits (rw (← rooms.plan_is) (enough_room _ _ c.room_for.ensures _ c.in_ok-room_for.was)) _ rooms.prices_are short.0)

pub room_for-requires-3 : goal.room_for-requires-3
room_for-requires-3 c =
    let (site, lent) = c.requires in
    (c.rooms_of-rooms.ensures site (open_in (goal.at.room_for-requires-3 c).Start site lent _ c.interval_count.ensures)).shares_fit

pub returns-in_err-room_for-3 : goal.returns-in_err-room_for-3
returns-in_err-room_for-3 c = λ site lent.
    let rooms = c.rooms_of-rooms.ensures site (open_in (goal.at.returns-in_err-room_for-3 c).Start site lent _ c.interval_count.ensures) in
    let passed = err_from_is_err_and c.from_residual-in_err-room_for-3.result c.from_residual-in_err-room_for-3.ensures.1 in
    let short = short_room _ _ c.room_for-3.ensures _ c.in_err-room_for-3.was in
    rw (passed.1, passed.2, short.1) (shares_short site _ lent.fits (rw (← rooms.plan_is) (enough_room _ _ c.room_for.ensures _ c.in_ok-room_for.was)) (rw (← rooms.prices_are) (enough_room _ _ c.room_for-2.ensures _ c.in_ok-room_for-2.was)) _ rooms.shares_are short.0)

pub make_plan-figures-requires : goal.make_plan-figures-requires
make_plan-figures-requires c =
    let (site, lent) = c.requires in
    let long = enough (goal.at.make_plan-figures-requires c).Start site _ _ _ (c.rooms_of-rooms.ensures site (open_in (goal.at.make_plan-figures-requires c).Start site lent _ c.interval_count.ensures))
    (enough_room _ _ c.room_for.ensures _ c.in_ok-room_for.was) (enough_room _ _ c.room_for-2.ensures _ c.in_ok-room_for-2.was) (enough_room _ _ c.room_for-3.ensures _ c.in_ok-room_for-3.was) in
    (site, record { fitting = lent; long = long })

pub overflow_cast-result : goal.overflow_cast-result
overflow_cast-result c =
    let (site, lent) = c.requires in
    let long = enough (goal.at.overflow_cast-result c).Start site _ _ _ (c.rooms_of-rooms.ensures site (open_in (goal.at.overflow_cast-result c).Start site lent _ c.interval_count.ensures))
    (enough_room _ _ c.room_for.ensures _ c.in_ok-room_for.was) (enough_room _ _ c.room_for-2.ensures _ c.in_ok-room_for-2.was) (enough_room _ _ c.room_for-3.ensures _ c.in_ok-room_for-3.was) in
    record { fits = (c.make_plan-figures.ensures site (record { fitting = lent; long = long })).intervals_fit }

pub overflow_cast-result-2 : goal.overflow_cast-result-2
overflow_cast-result-2 c =
    let (site, lent) = c.requires in
    let long = enough (goal.at.overflow_cast-result-2 c).Start site _ _ _ (c.rooms_of-rooms.ensures site (open_in (goal.at.overflow_cast-result-2 c).Start site lent _ c.interval_count.ensures))
    (enough_room _ _ c.room_for.ensures _ c.in_ok-room_for.was) (enough_room _ _ c.room_for-2.ensures _ c.in_ok-room_for-2.was) (enough_room _ _ c.room_for-3.ensures _ c.in_ok-room_for-3.was) in
    record { fits = (c.make_plan-figures.ensures site (record { fitting = lent; long = long })).steps_fit }

pub returns : goal.returns
returns c = λ site lent.
    let long = enough (goal.at.returns c).Start site _ _ _ (c.rooms_of-rooms.ensures site (open_in (goal.at.returns c).Start site lent _ c.interval_count.ensures))
    (enough_room _ _ c.room_for.ensures _ c.in_ok-room_for.was) (enough_room _ _ c.room_for-2.ensures _ c.in_ok-room_for-2.was) (enough_room _ _ c.room_for-3.ensures _ c.in_ok-room_for-3.was) in
    plan_made site _ lent.fits long _ _ _ _ (c.make_plan-figures.ensures site (record { fitting = lent; long = long }))
