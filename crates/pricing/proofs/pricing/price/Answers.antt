-- `pricing::price` meets its contract. Each way out rests on the verdicts that led there, by the laws of
-- proofs/SecondHalf.antt. Assumes nothing.
use mathlib.Core.Path.{◌≡◌, sym, ◌∙◌}
use mathlib.Core.Bool.{false}
use Prim.Native.Nat.{◌+◌, ◌*◌, ◌≤◌}
use native.Mathlib.Omega.{arith}
use lib.ListN.{length}
use Rattle.std.proofs.lemmas.Result.{err_from_is_err_and}
use Rattle.model.specs.Limits.{max_intervals}
use Rattle.levels.proofs.PointTables.{length_points_of}
use Rattle.pricing.specs.SecondHalf.{wrong_length_in}
use Rattle.pricing.proofs.SecondHalf.{wrong_length_refused, price_size, entries_refuse, band_numbers, fits_refuse, cheapest_decides}
use Rattle.pricing.proofs.pricing.price.Goals as goal
use Rattle.pricing.proofs.pricing.price.Goals.{Else-wrong_price_length}

pub returns-then-wrong_price_length : goal.returns-then-wrong_price_length
returns-then-wrong_price_length c =
    λ processor jobs is-working jobs_counted opened.
    rw c.at.ensures
    (wrong_length_refused
    _ c.args.sets.now _ _ _ _ _ _
    c.requires.small_bounds.0 c.requires.small_bounds.1 c.requires.planned _ c.interval_count-intervals.ensures processor is-working jobs
    (sym c.wrong_price_length.ensures ∙ c.if-wrong_price_length.true))

-- past the refusal 21 the price list has an entry for each interval
right : (c : Else-wrong_price_length)
    → let prices = c.args.prices.now in
    let intervals = c.interval_count-intervals.result in
    wrong_length_in intervals prices ≡ false
right c = sym c.wrong_price_length.ensures ∙ c.if-wrong_price_length.false

sized : (c : Else-wrong_price_length)
    → let intervals = c.interval_count-intervals.result in
    (intervals ≤ max_intervals) × (length c.args.prices.now ≡ 2 + 5 * intervals)
sized c =
    let a = c.args in
    let small = c.requires.small_bounds.0 in (
      omega (arith, small.rising.few),
      price_size _ a.times.now a.prices.now small.rising.few _ c.interval_count-intervals.ensures (right c),
    )

pub price_numbers-numbers-requires : goal.price_numbers-numbers-requires
price_numbers-numbers-requires c = sized (goal.at.price_numbers-numbers-requires c).Else-wrong_price_length

pub overflow_sub-bands : goal.overflow_sub-bands
overflow_sub-bands c =
    omega (arith, c.requires.small_points.0.rising.some, length_points_of c.args.working)

pub check_entries-requires : goal.check_entries-requires
check_entries-requires c = sized (goal.at.check_entries-requires c).Else-wrong_price_length

pub returns-in_err-check_entries : goal.returns-in_err-check_entries
returns-in_err-check_entries c =
    let told = err_from_is_err_and c.from_residual.result c.from_residual.ensures.1 in
    λ processor jobs is-working jobs_counted opened.
    rw (told.1, told.2)
    (entries_refuse
    _ c.args.sets.now _ _ _ _ _ _
    c.requires.small_bounds.0 c.requires.small_bounds.1 c.requires.planned _ c.interval_count-intervals.ensures processor is-working jobs (right (goal.at.returns-in_err-check_entries c).Else-wrong_price_length)
    _ c.price_numbers-numbers.ensures _ c.check_entries.ensures _ c.in_err-check_entries.was)

-- past the refusal 22 each price is the number of a band
pub check_fits-requires : goal.check_fits-requires
check_fits-requires c =
    record {
      small_points = c.requires.small_points;
      small_bounds = (
        c.requires.small_bounds.0,
        band_numbers
            _ c.args.times.now _ c.requires.small_bounds.0.rising.few _ c.interval_count-intervals.ensures (right (goal.at.check_fits-requires c).Else-wrong_price_length)
            _ c.price_numbers-numbers.ensures _ _ c.check_entries.ensures c.in_ok-check_entries.was,
      );
    }

pub returns-in_err-check_fits : goal.returns-in_err-check_fits
returns-in_err-check_fits c =
    let told = err_from_is_err_and c.from_residual-in_err-check_fits.result c.from_residual-in_err-check_fits.ensures.1 in
    λ processor jobs is-working jobs_counted opened.
    rw (told.1, told.2)
    (fits_refuse
    _ _ _ _ _ _ _ _
    c.requires.small_bounds.0 c.requires.small_bounds.1 c.requires.planned _ c.interval_count-intervals.ensures processor is-working jobs (right (goal.at.returns-in_err-check_fits c).Else-wrong_price_length)
    _ c.price_numbers-numbers.ensures _ c.check_entries.ensures c.in_ok-check_entries.was
    jobs_counted opened _ c.check_fits.ensures _ c.in_err-check_fits.was)

pub check_cheapest-requires : goal.check_cheapest-requires
check_cheapest-requires c =
    let planned = c.requires.planned in
    let points = c.requires.small_points.0 in record {
      bounds_le_max_bounds = (c.requires.small_bounds.0.rising.few, planned.size);
      by_index = λ i below. omega (
        arith,
        (band_numbers
            _ c.args.times.now _ c.requires.small_bounds.0.rising.few _ c.interval_count-intervals.ensures (right (goal.at.check_cheapest-requires c).Else-wrong_price_length)
            _ c.price_numbers-numbers.ensures _ _ c.check_entries.ensures c.in_ok-check_entries.was).high i below,
        points.few,
      );
      by_index_2 = planned.step_interval;
    }

pub returns : goal.returns
returns c =
    λ processor jobs is-working jobs_counted opened.
    cheapest_decides
    _ _ _ _ _ _ _ _
    c.requires.small_bounds.0 c.requires.small_bounds.1 c.requires.planned _ c.interval_count-intervals.ensures processor is-working jobs (right (goal.at.returns c).Else-wrong_price_length)
    _ c.price_numbers-numbers.ensures _ c.check_entries.ensures c.in_ok-check_entries.was
    jobs_counted opened _ c.check_fits.ensures c.in_ok-check_fits.was _ c.check_cheapest.ensures
