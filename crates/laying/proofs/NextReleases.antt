-- Laws of the next releases: the first ones, those after a tick, and that nothing is released before the earliest.
-- Assumes nothing.
use mathlib.Core.Path.{◌≡◌, ◌∙◌}
use mathlib.Core.Bool.{true, false}
use mathlib.Core.Logic.{◌⊎◌, inl, inr}
use mathlib.Core.List.{List, [], ◌∷◌}
use Prim.Native.Nat.{ℕ, ◌+◌, ◌-◌, ◌<◌, ◌≤◌, ◌∣◌, min}
use native.Mathlib.Nat.{eq-or-lt_of_le, dvd_of_mod-eq-zero, mod-eq-zero_of_dvd, dvd-add, dvd_refl, dvd-zero}
use native.Mathlib.Omega.{arith}
use lib.Dec.{leb}
use lib.ListN.{length, get_or, set, replicate, length-set, length-replicate}
use lib.Seq.{get_or-set_same, get_or-set_other}
use borrow.Author.Tests.{le-leb, eq-eqb, leb-true, eqb-true}
use Rattle.model.specs.Entries.{joined}
use Rattle.model.proofs.Joined.{joined_shorter}
use Rattle.model.proofs.Numbers.{lt_or_le, true_or_false, both_true}
use Rattle.model.proofs.Divides.{multiples_apart}
use Rattle.tasks.specs.declared.Task.{Task}
use Rattle.tasks.specs.Tasks.{max_tasks, task_of}
use Rattle.tasks.specs.LaidOut.{releases_at, job_released, released_by, jobs_at, lay_out}
use Rattle.laying.specs.NextReleases.{NextRelease, NextReleases, Earliest}

module _ (task : Task) where
  -- what the test says
  released_at : (tick : ℕ) → releases_at task tick ≡ true → (task.phase ≤ tick) × (task.period ∣ tick - task.phase)
  unfolding releases_at
  released_at tick e =
      let h = both_true (leb task.phase tick) _ e in
      (leb-true _ _ h.0, dvd_of_mod-eq-zero task.period (eqb-true _ _ h.1))

  releases-at : (tick : ℕ) → task.phase ≤ tick → task.period ∣ tick - task.phase → releases_at task tick ≡ true
  unfolding releases_at
  releases-at tick late divides = rw (le-leb _ _ late, eq-eqb _ _ (mod-eq-zero_of_dvd task.period divides))

  not_released : (tick : ℕ) → (releases_at task tick ≡ true → ⊥) → releases_at task tick ≡ false
  not_released tick never = go (true_or_false (releases_at task tick))
    where
      go : (releases_at task tick ≡ true) ⊎ (releases_at task tick ≡ false) → releases_at task tick ≡ false
      go (inl e) = absurd (never e)
      go (inr e) = e

  -- the first release is at the phase
  pub first_release : NextRelease task 0 task.phase
  first_release =
      let none : task.phase - task.phase ≡ 0 = omega arith in
      record {
        not_before = omega arith;
        released = releases-at task.phase (omega arith) (rw none (dvd-zero task.period));
        none_between = λ t from early. not_released t (λ e. omega (arith, (released_at t e).0));
      }

  -- a tick at which nothing is released
  pub release_later : (tick next : ℕ) → NextRelease task tick next → (next ≡ tick → ⊥) → NextRelease task (tick + 1) next
  release_later tick next h other =
      record {
        not_before = omega (arith, h.not_before);
        released = h.released;
        none_between = λ t from early. h.none_between t (omega arith) early;
      }

  -- a tick at which a job is released: the next one comes a period later
  pub release_moves : (tick : ℕ) → NextRelease task tick tick → 0 < task.period → NextRelease task (tick + 1) (tick + task.period)
  release_moves tick h some =
      let (late, divides) = released_at tick h.released in
      let further : tick + task.period - task.phase ≡ (tick - task.phase) + task.period = omega arith in
      record {
        not_before = omega arith;
        released = releases-at (tick + task.period) (omega arith) (rw further (dvd-add task.period divides (dvd_refl task.period)));
        none_between = λ t from early. not_released t (λ e.
            omega (arith, multiples_apart task.period (tick - task.phase) (t - task.phase) divides (released_at t e).1 (omega (arith, (released_at t e).0)), (released_at t e).0));
      }

  -- what is released at a tick
  pub released_here : (tick next : ℕ) → NextRelease task tick next → next ≡ tick → released_by task tick ≡ job_released task tick ∷ []
  unfolding released_by
  released_here tick next h same = let e : releases_at task tick ≡ true = rw same at h.released in rw e

  pub nothing_here : (tick next : ℕ) → NextRelease task tick next → (next ≡ tick → ⊥) → released_by task tick ≡ []
  unfolding released_by
  nothing_here tick next h other = rw (h.none_between tick (omega arith) (omega (arith, h.not_before)))

  -- the next release is the same from any tick up to it
  pub release_from : (tick next later : ℕ) → NextRelease task tick next → tick ≤ later → later ≤ next → NextRelease task later next
  release_from tick next later h from to =
      record { not_before = to; released = h.released; none_between = λ t low high. h.none_between t (omega arith) high }

  nothing_before : (tick next t : ℕ) → NextRelease task tick next → tick ≤ t → t < next → released_by task t ≡ []
  unfolding released_by
  nothing_before tick next t h from to = rw (h.none_between t from to)

-- no task releases a job from a tick up to the earliest of the next releases
module _ (tasks : List Task) (tick : ℕ) (next : List ℕ) (h : NextReleases tasks tick next) (later : ℕ) (from : tick ≤ later)
    (to : (i : ℕ) → i < length tasks → later ≤ get_or next i 0) where
  pub releases_from : NextReleases tasks later next
  releases_from =
      record {
        room = h.room;
        each = λ i below. release_from (task_of tasks i) tick (get_or next i 0) later (h.each i below) from (to i below);
      }

  no-jobs : (t : ℕ) → tick ≤ t → t < later → jobs_at tasks t ≡ []
  unfolding jobs_at joined
  no-jobs t low high =
      joined_shorter (λ i. released_by (task_of tasks i) t) 0 (length tasks) (omega arith)
      (λ i past below. nothing_before (task_of tasks i) tick (get_or next i 0) t (h.each i below) low (omega (arith, to i below)))

  pub laid_out_to : lay_out tasks later ≡ lay_out tasks tick
  unfolding lay_out
  laid_out_to = joined_shorter (jobs_at tasks) tick later from no-jobs

-- the earliest of none, and of one more
pub earliest_none : (next : List ℕ) (end : ℕ) → Earliest next 0 end end
earliest_none next end =
    record { by_end = omega arith; by_releases = λ i below. absurd (omega arith); greatest = λ n within below. within }

pub earliest_next : (next : List ℕ) (count end least : ℕ) → Earliest next count end least
    → Earliest next (count + 1) end (min least (get_or next count 0))
earliest_next next count end least h =
    record {
      by_end = omega (arith, h.by_end);
      by_releases = λ i below. at i (eq-or-lt_of_le (let h : i ≤ count = omega arith in h));
      greatest = λ n within low. omega (arith, h.greatest n within (λ i below. low i (omega arith)), low count (omega arith));
    }
  where
    at : (i : ℕ) → (i ≡ count) ⊎ (i < count) → min least (get_or next count 0) ≤ get_or next i 0
    at i (inl last) = rw last (omega arith)
    at i (inr earlier) = omega (arith, h.by_releases i earlier)

-- a list after a store: a fact of every place
after_store : (Fact : ℕ → ℕ → Type 0) (next : List ℕ) (i value : ℕ) → i < length next → Fact i value
    → (k : ℕ) → (k < i → Fact k (get_or next k 0)) → (i < k → Fact k (get_or next k 0)) → Fact k (get_or (set next i value) k 0)
after_store Fact next i value inside here k before after = go (lt_or_le k i)
  where
    late : (i ≡ k) ⊎ (i < k) → Fact k (get_or (set next i value) k 0)
    late (inl same) = rw (← same, get_or-set_same next i value 0 inside) here
    late (inr past) = rw (get_or-set_other next i k value 0 (λ e. omega arith)) (after past)

    go : (k < i) ⊎ (i ≤ k) → Fact k (get_or (set next i value) k 0)
    go (inl early) = rw (get_or-set_other next i k value 0 (λ e. omega arith)) (before early)
    go (inr past) = late (eq-or-lt_of_le past)

-- the first tasks have their first release
pub record FirstReleases (tasks : List Task) (count : ℕ) (next : List ℕ) : Type 0 where
  pub room : length next ≡ max_tasks
  pub each : (k : ℕ) → k < count → NextRelease (task_of tasks k) 0 (get_or next k 0)

pub first_none : (tasks : List Task) → FirstReleases tasks 0 (replicate max_tasks 0)
first_none tasks = record { room = length-replicate {A = ℕ} max_tasks 0; each = λ k below. absurd (omega arith) }

pub first_next : (tasks : List Task) (count : ℕ) (next : List ℕ) (task : Task) → FirstReleases tasks count next → count < max_tasks
    → task ≡ task_of tasks count → FirstReleases tasks (count + 1) (set next count task.phase)
first_next tasks count next task first inside is =
    record {
      room = length-set next count task.phase ∙ first.room;
      each = λ k below.
          after_store (λ k value. NextRelease (task_of tasks k) 0 value) next count task.phase (omega (arith, first.room)) (rw (← is) (first_release task))
          k (λ early. first.each k early) (λ late. absurd (omega arith));
    }

pub first_all : (tasks : List Task) (next : List ℕ) → FirstReleases tasks (length tasks) next → NextReleases tasks 0 next
first_all tasks next h = record { room = h.room; each = h.each }

-- In the middle of a tick: the first tasks have their next release after it, the others at or after it.
pub record MovedOn (tasks : List Task) (tick count : ℕ) (next : List ℕ) : Type 0 where
  pub room : length next ≡ max_tasks
  pub earlier : (k : ℕ) → k < count → k < length tasks → NextRelease (task_of tasks k) (tick + 1) (get_or next k 0)
  pub others : (k : ℕ) → count ≤ k → k < length tasks → NextRelease (task_of tasks k) tick (get_or next k 0)

module _ (tasks : List Task) (tick : ℕ) where
  pub moved_none : (next : List ℕ) → NextReleases tasks tick next → MovedOn tasks tick 0 next
  moved_none next h = record { room = h.room; earlier = λ k below inside. absurd (omega arith); others = λ k past inside. h.each k inside }

  pub moved_all : (next : List ℕ) → MovedOn tasks tick (length tasks) next → NextReleases tasks (tick + 1) next
  moved_all next h = record { room = h.room; each = λ i below. h.earlier i below below }

  module _ (count : ℕ) (next : List ℕ) (h : MovedOn tasks tick count next) (below : count < length tasks) where
    -- a task that releases a job at the tick
    pub moved_released : (task : Task) → task ≡ task_of tasks count → count < max_tasks → get_or next count 0 ≡ tick → 0 < task.period
        → MovedOn tasks tick (count + 1) (set next count (tick + task.period))
    moved_released task is inside now some =
        record {
          room = length-set next count (tick + task.period) ∙ h.room;
          earlier = λ k early known.
              after_store (λ k value. NextRelease (task_of tasks k) (tick + 1) value) next count (tick + task.period) (omega (arith, h.room)) moved
              k (λ low. h.earlier k low known) (λ late. absurd (omega arith));
          others = λ k past known.
              rw (get_or-set_other next count k (tick + task.period) 0 (λ e. omega arith)) (h.others k (omega arith) known);
        }
      where
        moved : NextRelease (task_of tasks count) (tick + 1) (tick + task.period)
        moved = rw (← is) (release_moves task tick (rw (now, ← is) at (h.others count (omega arith) below)) some)

    -- a task that does not
    pub moved_kept : (get_or next count 0 ≡ tick → ⊥) → MovedOn tasks tick (count + 1) next
    moved_kept other =
        record {
          room = h.room;
          earlier = λ k early known. at k known (eq-or-lt_of_le (let h : k ≤ count = omega arith in h));
          others = λ k past known. h.others k (omega arith) known;
        }
      where
        at : (k : ℕ) → k < length tasks → (k ≡ count) ⊎ (k < count) → NextRelease (task_of tasks k) (tick + 1) (get_or next k 0)
        at k known (inl last) = rw last (release_later (task_of tasks count) tick (get_or next count 0) (h.others count (omega arith) below) other)
        at k known (inr low) = h.earlier k low known
