-- Demand 3 of planning, part by part: with long enough buffers it refuses no valid tables; the window that comes out is
-- the earliest overfull one, and then no schedule meets all deadlines; a plan comes out where some schedule does; and a
-- plan that comes out is such a schedule of least energy.
-- Assumes nothing.
use mathlib.Core.Path.{◌≡◌, refl, sym, ◌∙◌}
use mathlib.Core.Bool.{Bool, true, false, cond}
use mathlib.Core.List.{List}
use mathlib.Core.Option.{Option, none, some}
use Prim.Native.Nat.{ℕ, ◌≤◌}
use native.Mathlib.Omega.{arith}
use lib.IntN.{ℤ}
use lib.Dec.{ltb}
use borrow.Author.Tests.{le-ltb}
use Rattle.model.specs.declared.Job.{Job}
use Rattle.model.specs.Processors.{top_of}
use Rattle.model.specs.Sites.{Site}
use Rattle.model.specs.Windows.{Window, spare_of, earliest_overfull}
use Rattle.model.specs.Steps.{shares_of}
use Rattle.model.specs.Planning.{
  PlanOutcome,
  refusal,
  overfull,
  comes_out,
  unless_overfull,
  wants,
  plan_length,
  price_length,
  share_count,
  plan_for,
}
use Rattle.model.specs.Demands.{
  LongEnough,
  EarliestWindow,
  LongEnoughDecides,
  WindowComesOut,
  WindowNeverServed,
  ServedComesOut,
  PlannedIsBest,
}
use Rattle.model.proofs.Windows.{overfull_iff, spare_negative, earliest_overfull_found, earliest_overfull_exists}
use Rattle.model.proofs.LeastEnergy.{overfull_never_served, plans_are_schedules}
use Rattle.model.proofs.Sites.{sound_site}
use Rattle.model.proofs.Accepted.{check_accepts, accepted_is_least}

module _ (site : Site) where
  abbrev top : ℕ
  top = top_of site.processor

  abbrev jobs : List Job
  jobs = site.jobs

  -- what the search for the earliest overfull window finds is the earliest one
  found_is_earliest : (w : Window) → earliest_overfull top jobs ≡ some w
      → EarliestWindow site w.start w.end (spare_of top jobs w.start w.end)
  found_is_earliest w e =
      let law = earliest_overfull_found top jobs w e in
      record {
        release = law.release;
        deadline = law.deadline;
        later = law.later;
        needs_more = (overfull_iff top jobs w.start w.end).0 law.overfull;
        earliest-start = λ j k from to later more.
            law.earliest-start j k (record { from = from; to = to; later = later; overfull = (overfull_iff top jobs _ _).1 more });
        earliest-end = λ k below later more. law.earliest-end k below later ((overfull_iff top jobs _ _).1 more);
        spare_is = refl;
        negative = (spare_negative top jobs w.start w.end).0 law.overfull;
      }

  starts_first : {start end first last : ℕ} {spare other : ℤ} → EarliestWindow site start end spare
      → EarliestWindow site first last other → start ≤ first
  starts_first one two =
      let (j, from, starts) = two.release in
      let (k, to, ends) = two.deadline in
      rw starts at (one.earliest-start j k from to (rw (starts, ends) two.later) (rw (starts, ends) two.needs_more))

  ends_first : {start end last : ℕ} {spare other : ℤ} → EarliestWindow site start end spare
      → EarliestWindow site start last other → end ≤ last
  ends_first one two =
      let (k, to, ends) = two.deadline in
      rw ends at (one.earliest-end k to (rw ends two.later) (rw ends two.needs_more))

  -- there is one earliest window
  earliest_is_one : {start end first last : ℕ} {spare other : ℤ} → EarliestWindow site start end spare
      → EarliestWindow site first last other → (start ≡ first) × (end ≡ last)
  earliest_is_one {start} {end} {first} {last} {spare} {other} one two =
      let starts : start ≡ first = omega (arith, starts_first one two, starts_first two one) in
      let moved : EarliestWindow site start last other = rw starts two in
      (starts, omega (arith, ends_first one moved, ends_first moved one))

  -- past refusal 11 nothing returns a window
  window_returned : (next : PlanOutcome) (start end : ℕ) (spare : ℤ) → (next ≡ overfull start end spare → ⊥)
      → (found : Option Window) → unless_overfull site found next ≡ overfull start end spare
      → (w : Window) × (found ≡ some w) × (overfull w.start w.end (spare_of top jobs w.start w.end) ≡ overfull start end spare)
  window_returned next start end spare never none e = absurd (never e)
  window_returned next start end spare never (some w) e = (w, refl, e)

  -- with nothing else to refuse, a plan comes out unless a window does
  decided : (found : Option Window) (outcome : PlanOutcome) → outcome ≡ unless_overfull site found comes_out
      → ((number place : ℕ) → outcome ≡ refusal number place → ⊥)
      × (outcome ≡ comes_out → found ≡ none)
  decided none outcome is = (
    λ number place e. let z : ◌≡◌ {A = ℕ} 0 1 = cc in omega arith,
    λ e. refl,
  )
  decided (some w) outcome is = (
    λ number place e. let z : ◌≡◌ {A = ℕ} 0 1 = cc in omega arith,
    λ e. cc,
  )

-- a buffer never returns a window
wants_no_window : (number wanted room : ℕ) (next : PlanOutcome) (start end : ℕ) (spare : ℤ) → (next ≡ overfull start end spare → ⊥)
    → wants number wanted room next ≡ overfull start end spare → ⊥
wants_no_window number wanted room next start end spare never = go (ltb room wanted)
  where
    go : (short : Bool) → cond short (refusal number wanted) next ≡ overfull start end spare → ⊥
    go true e = let z : ◌≡◌ {A = ℕ} 0 1 = cc e in omega arith
    go false e = never e

module _ (site : Site) (plan_room price_room share_room : ℕ) where
  -- what follows refusal 11
  abbrev with_rooms : PlanOutcome
  with_rooms = wants 12 (plan_length site) plan_room (wants 13 (price_length site) price_room (wants 14 (share_count site) share_room comes_out))

  planned_as : plan_for site plan_room price_room share_room ≡ unless_overfull site (earliest_overfull (top site) (jobs site)) with_rooms
  unfolding plan_for
  planned_as = refl

  enough : LongEnough site plan_room price_room share_room → with_rooms ≡ comes_out
  enough long = rw (le-ltb _ _ long.plan-room, le-ltb _ _ long.price-room, le-ltb _ _ long.share-room)

  no-window : (start end : ℕ) (spare : ℤ) → with_rooms ≡ overfull start end spare → ⊥
  no-window start end spare =
      wants_no_window 12 _ plan_room _ start end spare
      (wants_no_window 13 _ price_room _ start end spare
      (wants_no_window 14 _ share_room comes_out start end spare
      (λ e. let z : ◌≡◌ {A = ℕ} 0 1 = cc e in omega arith)))

pub long_enough_decides : LongEnoughDecides
long_enough_decides site plan_room price_room share_room long =
    let is = rw (enough site plan_room price_room share_room long) at (planned_as site plan_room price_room share_room) in
    let (no_refusal, not_overfull) = decided site (earliest_overfull (top site) (jobs site)) _ is in
    record { no_refusal = no_refusal; plan_unless_overfull = (not_overfull, λ found. rw found at is) }

pub window_comes_out : WindowComesOut
window_comes_out site valid plan_room price_room share_room start end spare =
    let is = planned_as site plan_room price_room share_room in (
      λ e.
          let never = no-window site plan_room price_room share_room start end spare in
          let (w, found, same) = window_returned site _ start end spare never (earliest_overfull (top site) (jobs site)) (sym is ∙ e) in
          let starts : w.start ≡ start = cc same in
          let ends : w.end ≡ end = cc same in
          let spares : spare_of (top site) (jobs site) w.start w.end ≡ spare = cc same in
          rw (spares, starts, ends) at (found_is_earliest site w found),
      λ window.
          let full = (overfull_iff (top site) (jobs site) start end).1 window.needs_more in
          let (w, found) = earliest_overfull_exists (top site) (jobs site) (sound_site valid).ordered start end full in
          let (starts, ends) = earliest_is_one site window (found_is_earliest site w found) in
          rw (is, found, ← starts, ← ends, window.spare_is),
    )

pub window_never_served : WindowNeverServed
window_never_served site valid start end more (schedule, serves) =
    let full = (overfull_iff (top site) (jobs site) start end).1 more in
    overfull_never_served site.processor.idle_power site.processor.levels (jobs site) (sound_site valid) start end full schedule serves

pub served_comes_out : ServedComesOut
served_comes_out site valid plan_room price_room share_room long served =
    (long_enough_decides site plan_room price_room share_room long).plan_unless_overfull.1 (go (earliest_overfull (top site) (jobs site)) refl)
  where
    go : (found : Option Window) → earliest_overfull (top site) (jobs site) ≡ found → found ≡ none
    go none e = refl
    go (some w) e =
        let window = found_is_earliest site w e in
        absurd (window_never_served site valid w.start w.end window.needs_more served)

pub planned_is_best : PlannedIsBest
planned_is_best site valid intervals steps energy plan prices shares planned =
    let (accepted, figure) = (check_accepts site plan prices energy).0 planned.accepted in
    record {
      placed_and_priced = accepted;
      figure = figure;
      least = accepted_is_least site valid plan prices energy planned.accepted;
      carried_out =
          plans_are_schedules site.processor.idle_power site.processor.levels (jobs site) (sound_site valid)
          site.bounds valid.bounds (shares_of plan) accepted.gives;
      smallest = λ others answered e i below.
          let (_, other) = (check_accepts site plan others answered).0 e in
          let same : answered ≡ energy = other ∙ sym figure in
          planned.smallest others (rw same at e) i (rw planned.interval-count below);
    }
