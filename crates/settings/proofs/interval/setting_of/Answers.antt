-- `interval::setting_of` meets its contract. The band that `band_of` finds lies inside the table, and the load above the
-- band's lower end (proofs/Loads.antt). Assumes nothing.
use Prim.Native.Nat.{◌+◌, ◌<◌, ◌≤◌}
use native.Mathlib.Omega.{arith}
use Rattle.settings.proofs.Loads.{load_high, band_inside, lower_below, frequency_above, setting_found, setting_idle}
use Rattle.settings.proofs.interval.setting_of.Goals as goal
use Rattle.settings.proofs.interval.setting_of.Goals.{After-band_of-k}

pub returns-then-load-eq0 : goal.returns-then-load-eq0
returns-then-load-eq0 c = setting_idle _ _ _ c.if-load-eq0.true

-- both ends of the band stand in the table
inside : (c : After-band_of-k) → (c.band_of-k.result + 1 < c.args.working.count) × (c.args.working.count ≤ 9)
inside c =
    (band_inside _ c.requires.small_points.1 _ _ _ c.band_of-k.ensures (omega arith) c.requires.fits, c.requires.small_points.0.few)

pub offset_bounds-working-k : goal.offset_bounds-working-k
offset_bounds-working-k c = omega (arith, inside (goal.at.offset_bounds-working-k c).After-band_of-k)

pub bounds-working-k : goal.bounds-working-k
bounds-working-k c = omega (arith, inside (goal.at.bounds-working-k c).After-band_of-k)

pub overflow_cast-result : goal.overflow_cast-result
overflow_cast-result c = omega (arith, inside (goal.at.overflow_cast-result c).After-band_of-k)

pub overflow_add-result : goal.overflow_add-result
overflow_add-result c = omega (arith, inside (goal.at.overflow_add-result c).After-band_of-k)

pub overflow_mul-result : goal.overflow_mul-result
overflow_mul-result c =
    omega (arith, load_high _ c.requires.small_points.0 c.args.length c.band_of-k.result c.requires.length_le_max_deadline (omega (arith, inside (goal.at.overflow_mul-result c).After-band_of-k)))

pub overflow_sub-result : goal.overflow_sub-result
overflow_sub-result c =
    omega (arith, lower_below _ c.requires.small_points.1 _ _ _ c.band_of-k.ensures (omega arith) c.requires.fits)

pub overflow_add-result-2 : goal.overflow_add-result-2
overflow_add-result-2 c = omega (arith, inside (goal.at.overflow_add-result-2 c).After-band_of-k)

pub offset_bounds-working-k-2 : goal.offset_bounds-working-k-2
offset_bounds-working-k-2 c = omega (arith, inside (goal.at.offset_bounds-working-k-2 c).After-band_of-k)

pub bounds-working-k-2 : goal.bounds-working-k-2
bounds-working-k-2 c = omega (arith, inside (goal.at.bounds-working-k-2 c).After-band_of-k)

pub overflow_sub-result-2 : goal.overflow_sub-result-2
overflow_sub-result-2 c =
    frequency_above _ c.requires.small_points.1 _ _ _ c.band_of-k.ensures (omega arith) c.requires.fits

pub returns : goal.returns
returns c =
    setting_found _ c.requires.small_points.1 _ _ _ c.band_of-k.ensures (omega arith) c.requires.fits
