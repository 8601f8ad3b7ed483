-- One plan that runs again and again (document 02, Change 1). Demand 3: "one plan will then run for weeks." The kernel loads the
-- plan of one round and runs it again every H ticks. Slot by slot, this is the repeated plan carried out.
use Rattle.std.specs.Prelude.{ℕ, suc, ◌+◌, ◌-◌, ◌*◌, ◌<◌, ◌≤◌, ◌≡◌, length}
use Rattle.model.specs.Processors.{working_of}
use Rattle.model.specs.Sites.{Site}
use Rattle.model.specs.Plans.{Shares}
use Rattle.model.specs.Schedules.{Slot, idles, runs, horizon}
use Rattle.model.specs.CarriedOut.{slots_per_tick, slot_of}
use Rattle.repeats.specs.Repeats.{repeat_shares, repeat_site}

-- A slot for a later job: the same level, and the job that comes so many numbers later. Idling stays idling.
abbrev pub later_slot : (numbers : ℕ) → Slot → Slot
later_slot numbers idles = idles
later_slot numbers (runs level job) = runs level (numbers + job)

module _ (site : Site) where
  -- The slots of a tick. The levels alone decide, so a tick of repeats has as many as a tick of the round.
  abbrev q : ℕ
  q = slots_per_tick (working_of site.processor)

  -- The slots from earliest release to latest deadline.
  abbrev pub slot_count_of : ℕ
  slot_count_of = q * horizon site.jobs

  -- What a plan, carried out, does in a slot, counted from the earliest release.
  abbrev pub slot_at : Shares → (slot : ℕ) → Slot
  slot_at shares = slot_of site.processor.idle_power site.processor.levels site.jobs site.bounds shares

  -- The first slot of repeat k, which starts k × H ticks after the first repeat.
  abbrev pub start_of_repeat : (H repeat : ℕ) → ℕ
  start_of_repeat H k = k * (q * H)

module _ (H r : ℕ) (site : Site) (shares : Shares) where
  -- what the repeated plan does in a slot
  abbrev repeated_slot : (slot : ℕ) → Slot
  repeated_slot = slot_at (repeat_site H r site) (repeat_shares H site shares)

  -- The repeated plan is the plan of the round, run again.
  pub record RunAgain : Type 0 where
    -- slot u of repeat k does what slot u of the round does, for the job of repeat k: of n jobs, job j of repeat k has the
    -- number k × n + j
    pub in_round : (k u : ℕ) → k < r → u < slot_count_of site
        → repeated_slot (start_of_repeat site H k + u) ≡ later_slot (k * length site.jobs) (slot_at site shares u)
    -- from the end of one round to the start of the next the processor idles
    pub between : (k s : ℕ) → suc k < r → start_of_repeat site H k + slot_count_of site ≤ s → s < start_of_repeat site H (suc k)
        → repeated_slot s ≡ idles
    -- there are no other slots: the last round ends the whole
    pub all_slots : 0 < r → 0 < length site.jobs → slot_count_of (repeat_site H r site) ≡ start_of_repeat site H (r - 1) + slot_count_of site
