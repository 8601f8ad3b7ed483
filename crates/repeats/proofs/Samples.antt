-- Samples, by computation: rounds that join, rounds with a stretch between, none, and their energy.
-- Assumes nothing.
use mathlib.Core.Path.{◌≡◌, refl}
use mathlib.Core.List.{List, [], ◌∷◌}
use Prim.Native.Nat.{ℕ, ◌+◌, ◌*◌}
use Rattle.model.specs.Sum.{sum, product}
use Rattle.model.specs.Search.{some_below, first_from}
use Rattle.model.specs.Entries.{list_of, joined}
use Rattle.model.specs.Points.{points, drops, dropped, select_from, working}
use Rattle.model.specs.Bands.{gap, rise, scale, price}
use Rattle.model.specs.Intervals.{insert_time, bounds_of, length_of}
use Rattle.model.specs.Setting.{band_of, setting_of}
use Rattle.model.specs.Sites.{Site}
use Rattle.model.specs.Plans.{Shares, shares_in, load}
use Rattle.model.specs.Energy.{band_cycles, interval_energy, exact_energy}
use Rattle.model.specs.Schedules.{Slot, idles, runs}
use Rattle.model.specs.CarriedOut.{slots_per_tick, point_number, point_in_slot, delivered_before, job_in_slot, interval_of_slot, slot_of}
use Rattle.tasks.specs.declared.Task.{Task}
use Rattle.tasks.specs.LaidOut.{lay_out, jobs_at, released_by, releases_at}
use Rattle.repeats.specs.Repeats.{repeat_jobs, round_size, repeat_bounds, repeat_shares, repeat_prices, repeat_site, energy_at, energy_of_rounds}
use Rattle.repeats.specs.RunAgain.{slot_at}

-- rounds from 0 to 2, every 2 ticks: the last bound of one is the first of the next
joined_rounds : repeat_bounds 2 (0 ∷ 1 ∷ 2 ∷ []) 3 ≡ 0 ∷ 1 ∷ 2 ∷ 3 ∷ 4 ∷ 5 ∷ 6 ∷ []
unfolding repeat_bounds round_size list_of
joined_rounds = refl

-- rounds from 1 to 4, every 5 ticks: a stretch from 4 to 6, and from 9 to 11
rounds_apart : repeat_bounds 5 (1 ∷ 3 ∷ 4 ∷ []) 3 ≡ 1 ∷ 3 ∷ 4 ∷ 6 ∷ 8 ∷ 9 ∷ 11 ∷ 13 ∷ 14 ∷ []
unfolding repeat_bounds round_size list_of
rounds_apart = refl

-- no repeats, no bounds, and a bound without an interval
no_bounds : (repeat_bounds 5 (1 ∷ 3 ∷ 4 ∷ []) 0 ≡ []) × (repeat_bounds 5 [] 3 ≡ []) × (repeat_bounds 5 (0 ∷ []) 3 ≡ [])
unfolding repeat_bounds round_size list_of
no_bounds = (refl, refl, refl)

-- a job from 1 to 3, and one from 1 to 4; whether the processor idles for free or not
abbrev two_jobs : (idle_power : ℕ) → Site
two_jobs idle_power = record {
  processor = record {
    idle_power = idle_power;
    levels = record { frequency = 2; voltage = 10 } ∷ record { frequency = 4; voltage = 20 } ∷ [];
  };
  jobs = record { release = 1; deadline = 3; cycles = 4 } ∷ record { release = 1; deadline = 4; cycles = 2 } ∷ [];
  bounds = 1 ∷ 3 ∷ 4 ∷ [];
}

three_repeats : (repeat_site 5 3 (two_jobs 0)).jobs
    ≡ record { release = 1; deadline = 3; cycles = 4 }
    ∷ record { release = 1; deadline = 4; cycles = 2 }
    ∷ record { release = 6; deadline = 8; cycles = 4 }
    ∷ record { release = 6; deadline = 9; cycles = 2 }
    ∷ record { release = 11; deadline = 13; cycles = 4 }
    ∷ record { release = 11; deadline = 14; cycles = 2 }
    ∷ []
unfolding repeat_jobs list_of
three_repeats = refl

own_bounds : (repeat_site 5 3 (two_jobs 0)).bounds ≡ bounds_of (repeat_site 5 3 (two_jobs 0)).jobs
unfolding repeat_bounds repeat_jobs round_size list_of bounds_of insert_time
own_bounds = refl

-- the first job takes the first interval, the second one the second
abbrev two_shares : Shares
two_shares = shares_in 2 (4 ∷ 0 ∷ 0 ∷ 2 ∷ [])

-- by interval, of all repeats; those of number 2 and 5 lie between rounds
shares_of_job : (job : ℕ) → List ℕ
shares_of_job j = list_of 8 (λ t. repeat_shares 5 (two_jobs 0) two_shares t j)

shares_repeat : (shares_of_job 0 ≡ 4 ∷ 0 ∷ 0 ∷ 0 ∷ 0 ∷ 0 ∷ 0 ∷ 0 ∷ [])
    × (shares_of_job 3 ≡ 0 ∷ 0 ∷ 0 ∷ 0 ∷ 2 ∷ 0 ∷ 0 ∷ 0 ∷ [])
    × (shares_of_job 4 ≡ 0 ∷ 0 ∷ 0 ∷ 0 ∷ 0 ∷ 0 ∷ 4 ∷ 0 ∷ [])
unfolding shares_of_job repeat_shares round_size list_of
shares_repeat = (refl, refl, refl)

prices_repeat : list_of 8 (repeat_prices 5 (1 ∷ 3 ∷ 4 ∷ []) (λ i. 7 + i)) ≡ 7 ∷ 8 ∷ 1 ∷ 7 ∷ 8 ∷ 1 ∷ 7 ∷ 8 ∷ []
unfolding repeat_prices round_size list_of
prices_repeat = refl

-- A round takes 3 ticks of the lower level, of power 200. Where idling draws 10, the two stretches of 2 ticks draw it.
-- Energies are multiplied out by both gaps, 2 × 2.
energies : (energy_at (repeat_site 5 3 (two_jobs 0)) (repeat_shares 5 (two_jobs 0) two_shares) ≡ 4 * (3 * 600))
    × (energy_at (repeat_site 5 3 (two_jobs 10)) (repeat_shares 5 (two_jobs 10) two_shares) ≡ 4 * (3 * 600 + 2 * 20))
    × (energy_at (repeat_site 5 0 (two_jobs 10)) (repeat_shares 5 (two_jobs 10) two_shares) ≡ 0)
    × (energy_of_rounds 3 (two_jobs 10) two_shares 2 ≡ 4 * (3 * 600 + 2 * 20))
unfolding repeat_jobs repeat_bounds repeat_shares round_size list_of sum product some_below points drops dropped select_from working gap rise scale price length_of load band_cycles interval_energy exact_energy
energies = (refl, refl, refl, refl)

-- A tick is cut into 2 × 4 × 2 × 2 slots, a round has 3 ticks. Slot 64 starts the second interval. In the second repeat it is
-- slot 5 × 32 + 64, the second job having number 3; from slot 5 × 32 + 96 on the processor idles up to the third repeat.
abbrev repeated_slot : (slot : ℕ) → Slot
repeated_slot = slot_at (repeat_site 5 3 (two_jobs 0)) (repeat_shares 5 (two_jobs 0) two_shares)

slots : (slot_at (two_jobs 0) two_shares 63 ≡ runs 0 0)
    × (slot_at (two_jobs 0) two_shares 64 ≡ runs 0 1)
    × (repeated_slot (160 + 63) ≡ runs 0 2)
    × (repeated_slot (160 + 64) ≡ runs 0 3)
    × (repeated_slot (160 + 95) ≡ runs 0 3)
    × (repeated_slot (160 + 96) ≡ idles)
    × (repeated_slot (160 + 159) ≡ idles)
    × (repeated_slot (160 + 160) ≡ runs 0 4)
unfolding repeat_jobs repeat_bounds repeat_shares round_size list_of sum product some_below first_from points drops dropped select_from working gap scale length_of load band_of setting_of slots_per_tick point_number point_in_slot delivered_before job_in_slot interval_of_slot slot_of
slots = (refl, refl, refl, refl, refl, refl, refl, refl)

-- two tasks, of periods 4 and 6, in twice 12 ticks
abbrev two_tasks : List Task
two_tasks = record { phase = 1; period = 4; deadline = 2; cycles = 7 } ∷ record { phase = 0; period = 6; deadline = 1; cycles = 5 } ∷ []

laid_out : lay_out two_tasks 24 ≡ repeat_jobs 12 2 (lay_out two_tasks 12)
unfolding repeat_jobs lay_out jobs_at released_by releases_at list_of joined
laid_out = refl
