-- Laws of cycles added to one job: into which windows they come, how many can be added, and that this is the least spare of those windows.
-- Assumes nothing.
use mathlib.Core.Path.{◌≡◌, refl, sym, ◌∙◌, ap}
use mathlib.Core.Bool.{Bool, true, false}
use mathlib.Core.Logic.{◌⊎◌, inl, inr}
use mathlib.Core.Option.{Option, none, some}
use mathlib.Core.List.{List}
use Prim.Native.Nat.{ℕ, suc, ◌+◌, ◌-◌, ◌*◌, ◌<◌, ◌≤◌}
use native.Mathlib.Omega.{arith}
use lib.ListN.{length, length-set}
use lib.Seq.{get_or-set_same, get_or-set_other}
use lib.Dec.{leb}
use borrow.Author.Tests.{le-leb, leb-true}
use Rattle.model.specs.declared.Job.{Job}
use Rattle.model.specs.Sum.{only_if}
use Rattle.model.specs.Jobs.{job_of, no_job}
use Rattle.model.specs.Windows.{Window, is_inside, cycles_inside, earliest_overfull}
use Rattle.model.proofs.Numbers.{lt_or_le, true_or_false}
use Rattle.model.proofs.Search.{first_below_is, least_index}
use Rattle.model.proofs.Sum.{sum_update, sum_term}
use Rattle.model.proofs.Windows.{EarliestOverfull, inside_iff, overfull_iff, earliest_overfull_found, earliest_overfull_exists}
use Rattle.windows.proofs.FittingSets.{fitting_window}
use Rattle.job_rooms.specs.AddedCycles.{longer_job, with_added, is_found, room_of, SoundJobs, MostAdded, RoomIsMost, LeastSpare, RoomIsLeastSpare}

-- the jobs with cycles added to one of them
module _ (jobs : List Job) (j added : ℕ) (below : j < length jobs) where
  abbrev longer : List Job
  longer = with_added jobs j added

  pub added_length : length (with_added jobs j added) ≡ length jobs
  unfolding with_added
  added_length = length-set jobs j (longer_job (job_of jobs j) added)

  pub added_here : job_of (with_added jobs j added) j ≡ longer_job (job_of jobs j) added
  unfolding with_added
  added_here = get_or-set_same jobs j (longer_job (job_of jobs j) added) no_job below

  pub added_other : (i : ℕ) → (i ≡ j → ⊥) → job_of (with_added jobs j added) i ≡ job_of jobs i
  unfolding with_added
  added_other i other = get_or-set_other jobs j i (longer_job (job_of jobs j) added) no_job other

  -- no window of a job moves
  pub added_window : (i : ℕ) → ((job_of (with_added jobs j added) i).release ≡ (job_of jobs i).release) × ((job_of (with_added jobs j added) i).deadline ≡ (job_of jobs i).deadline)
  added_window i = go (lt_or_le i j) (lt_or_le j i)
    where
      kept : (i ≡ j → ⊥) → ((job_of longer i).release ≡ (job_of jobs i).release) × ((job_of longer i).deadline ≡ (job_of jobs i).deadline)
      kept other = (ap (λ (job : Job). job.release) (added_other i other), ap (λ (job : Job). job.deadline) (added_other i other))

      go : (i < j) ⊎ (j ≤ i) → (j < i) ⊎ (i ≤ j) → ((job_of longer i).release ≡ (job_of jobs i).release) × ((job_of longer i).deadline ≡ (job_of jobs i).deadline)
      go (inl less) _ = kept (λ e. omega arith)
      go (inr _) (inl less) = kept (λ e. omega arith)
      go (inr most) (inr least) =
          let same : i ≡ j = omega arith in
          rw same (ap (λ (job : Job). job.release) added_here, ap (λ (job : Job). job.deadline) added_here)

  -- the windows that have the job inside gain the cycles, the others none
  pub inside_gains : (start end : ℕ)
      → cycles_inside (with_added jobs j added) start end ≡ cycles_inside jobs start end + only_if (is_inside start end (job_of jobs j)) added
  unfolding cycles_inside
  inside_gains start end =
      rw added_length
      (sum_update (length jobs)
      (λ i. only_if (is_inside start end (job_of jobs i)) (job_of jobs i).cycles) (λ i. only_if (is_inside start end (job_of longer i)) (job_of longer i).cycles)
      j (only_if (is_inside start end (job_of jobs j)) added) below
      (rw added_here (here (is_inside start end (job_of jobs j))))
      (λ i h other. rw (added_other i other)))
    where
      here : (t : Bool) → only_if t ((job_of jobs j).cycles + added) ≡ only_if t (job_of jobs j).cycles + only_if t added
      here true = refl
      here false = refl

  pub added_ordered : ((i : ℕ) → i < length jobs → (job_of jobs i).release < (job_of jobs i).deadline)
      → (i : ℕ) → i < length (with_added jobs j added) → (job_of (with_added jobs j added) i).release < (job_of (with_added jobs j added) i).deadline
  added_ordered ordered i h = omega (arith, added_window i, ordered i (rw (← added_length) h))

module _ (top : ℕ) (jobs : List Job) (sound : SoundJobs jobs) (fits : earliest_overfull top jobs ≡ none) (j : ℕ) (below : j < length jobs) where
  fitting : (start end : ℕ) → cycles_inside jobs start end ≤ (end - start) * top
  fitting = fitting_window top jobs sound.ordered fits

  -- so much of the least spare can be added, and no more
  module _ (spare : ℕ) (least : LeastSpare top jobs j spare) where
    spare_fits : (added : ℕ) → added ≤ spare → earliest_overfull top (with_added jobs j added) ≡ none
    spare_fits added few = go (earliest_overfull top longer) refl
      where
        longer : List Job
        longer = with_added jobs j added

        go : (found : Option Window) → earliest_overfull top longer ≡ found → found ≡ none
        go none e = refl
        go (some w) e = absurd (inner (true_or_false (is_inside w.start w.end (job_of jobs j))))
          where
            law : EarliestOverfull top longer w
            law = earliest_overfull_found top longer w e

            over : (w.end - w.start) * top < cycles_inside jobs w.start w.end + only_if (is_inside w.start w.end (job_of jobs j)) added
            over = rw (inside_gains jobs j added below w.start w.end) at ((overfull_iff top longer w.start w.end).0 law.overfull)

            inner : (is_inside w.start w.end (job_of jobs j) ≡ true) ⊎ (is_inside w.start w.end (job_of jobs j) ≡ false) → ⊥
            inner (inr outside) = omega (arith, rw outside at over, fitting w.start w.end)
            inner (inl inside) =
                let (i, i-below, starts) = law.release in
                let (k, k-below, ends) = law.deadline in
                let bounds = (inside_iff w.start w.end (job_of jobs j)).0 inside in
                let from : (job_of jobs i).release ≡ w.start = sym (added_window jobs j added below i).0 ∙ starts in
                let to : (job_of jobs k).deadline ≡ w.end = sym (added_window jobs j added below k).1 ∙ ends in
                let room =
                least.lowest i k (rw (← added_length jobs j added below) i-below) (rw (← added_length jobs j added below) k-below)
                (omega (arith, bounds.0)) (omega (arith, bounds.1)) in
                omega (arith, rw inside at over, rw (from, to) at room)

    spare_full : (added : ℕ) → spare < added → (w : Window) × (earliest_overfull top (with_added jobs j added) ≡ some w)
    spare_full added more =
        let (start, end, from, to, met) = least.met in
        let inside = (inside_iff start end (job_of jobs j)).1 (from, to) in
        earliest_overfull_exists top (with_added jobs j added) (added_ordered jobs j added below sound.ordered) start end
        ((overfull_iff top (with_added jobs j added) start end).1 (rw (inside_gains jobs j added below start end, inside) (omega (arith, met))))

    pub spare_most : MostAdded top jobs j spare
    spare_most = record { still_fits = spare_fits; then_overfull = spare_full }

    -- it is below what the top frequency gives in the job's own window
    own_cycles : (job_of jobs j).cycles ≤ cycles_inside jobs (job_of jobs j).release (job_of jobs j).deadline
    unfolding cycles_inside
    own_cycles =
        rw ((inside_iff (job_of jobs j).release (job_of jobs j).deadline (job_of jobs j)).1 (omega arith, omega arith)) at
        (sum_term (length jobs) (λ i. only_if (is_inside (job_of jobs j).release (job_of jobs j).deadline (job_of jobs i)) (job_of jobs i).cycles) j below)

    pub room_is_spare : room_of top jobs j ≡ spare
    unfolding room_of
    room_is_spare =
        first_below_is (((job_of jobs j).deadline - (job_of jobs j).release) * top) _ spare
        (omega (arith, own_cycles, sound.some-cycles j below, least.lowest j j below below (omega arith) (omega arith)))
        (λ added less. ap is_found (spare_fits (suc added) (omega arith)))
        (let (w, e) = spare_full (suc spare) (omega arith) in ap is_found e)

  -- of a fitting set there is a least spare
  spare_exists : (spare : ℕ) × LeastSpare top jobs j spare
  spare_exists =
      let (i, i-below, i-holds, i-least) = outer in
      let (k, k-below, k-holds, k-least) = inner i in
      let from = leb-true (job_of jobs i).release (job_of jobs j).release i-holds in
      let to = leb-true (job_of jobs j).deadline (job_of jobs k).deadline k-holds in (
        spare i k,
        record {
          lowest = λ a b a-below b-below before after.
              let least = i-least a a-below (le-leb (job_of jobs a).release (job_of jobs j).release before) in
              let next = (inner a).3 b b-below (le-leb (job_of jobs j).deadline (job_of jobs b).deadline after) in
              omega (arith, fitting (job_of jobs a).release (job_of jobs b).deadline);
          met = ((job_of jobs i).release, (job_of jobs k).deadline, from, to, omega (arith, fitting (job_of jobs i).release (job_of jobs k).deadline));
        },
      )
    where
      spare : ℕ → ℕ → ℕ
      spare i k = ((job_of jobs k).deadline - (job_of jobs i).release) * top - cycles_inside jobs (job_of jobs i).release (job_of jobs k).deadline

      inner : (i : ℕ) → (k : ℕ) × (k < length jobs) × (leb (job_of jobs j).deadline (job_of jobs k).deadline ≡ true)
          × ((l : ℕ) → l < length jobs → leb (job_of jobs j).deadline (job_of jobs l).deadline ≡ true → spare i k ≤ spare i l)
      inner i =
          least_index (length jobs) (spare i) (λ k. leb (job_of jobs j).deadline (job_of jobs k).deadline) j below
          (le-leb (job_of jobs j).deadline (job_of jobs j).deadline (omega arith))

      outer : (i : ℕ) × (i < length jobs) × (leb (job_of jobs i).release (job_of jobs j).release ≡ true)
          × ((l : ℕ) → l < length jobs → leb (job_of jobs l).release (job_of jobs j).release ≡ true → spare i (inner i).0 ≤ spare l (inner l).0)
      outer =
          least_index (length jobs) (λ i. spare i (inner i).0) (λ i. leb (job_of jobs i).release (job_of jobs j).release) j below
          (le-leb (job_of jobs j).release (job_of jobs j).release (omega arith))

pub room_is_least_spare : RoomIsLeastSpare
room_is_least_spare top jobs sound fits j below spare least = room_is_spare top jobs sound fits j below spare least

pub room_is_most : RoomIsMost
room_is_most top jobs sound fits j below =
    let (spare, least) = spare_exists top jobs sound fits j below in
    rw (room_is_spare top jobs sound fits j below spare least) (spare_most top jobs sound fits j below spare least)
