-- Laying out tick by tick: the invariant, the next tick at which jobs are released, and the end.
-- Assumes nothing.
use mathlib.Core.Path.{◌≡◌}
use mathlib.Core.List.{List, ◌++◌}
use Prim.Native.Nat.{ℕ, ◌+◌, ◌<◌, ◌≤◌}
use native.Mathlib.Omega.{arith}
use lib.ListN.{length}
use Rattle.model.specs.declared.Job.{Job}
use Rattle.model.specs.Limits.{max_jobs}
use Rattle.model.specs.Entries.{joined}
use Rattle.model.proofs.Joined.{joined_next}
use Rattle.tasks.specs.declared.Task.{Task}
use Rattle.tasks.specs.LaidOut.{jobs_at, lay_out}
use Rattle.laying.specs.NextReleases.{NextReleases, Earliest}
use Rattle.laying.specs.ListedJobs.{JobArrays, ListedJobs, AllListed}
use Rattle.laying.proofs.NextReleases.{releases_from, laid_out_to}
use Rattle.laying.proofs.ListedJobs.{listed_none, all_listed, round_too_many}

module _ (tasks : List Task) (multiple : ℕ) where
  -- All jobs that are released before a tick are listed, and the next releases are at or after it.
  pub record Laying (tick : ℕ) (next releases deadlines cycles : List ℕ) (count : ℕ) : Type 0 where
    pub within : tick ≤ multiple
    pub next-releases : NextReleases tasks tick next
    pub arrays : JobArrays releases deadlines cycles
    pub listed : ListedJobs (lay_out tasks tick) count releases deadlines cycles
    pub few : count ≤ max_jobs

  -- from a tick to the earliest of the next releases
  laying_to : (from tick : ℕ) (next releases deadlines cycles : List ℕ) (count : ℕ) → from ≤ multiple → count ≤ max_jobs → NextReleases tasks from next
      → JobArrays releases deadlines cycles → ListedJobs (lay_out tasks from) count releases deadlines cycles
      → Earliest next (length tasks) multiple tick → Laying tick next releases deadlines cycles count × (from ≤ tick)
  laying_to from tick next releases deadlines cycles count low few h arrays listed earliest =
      let later : from ≤ tick = earliest.greatest from low (λ i below. (h.each i below).not_before) in
      let same : lay_out tasks tick ≡ lay_out tasks from = laid_out_to tasks from next h tick later earliest.by_releases in (
        record {
          within = earliest.by_end;
          next-releases = releases_from tasks from next h tick later earliest.by_releases;
          arrays = arrays;
          listed = rw same listed;
          few = few;
        },
        later,
      )

  pub laying_start : (tick : ℕ) (next releases deadlines cycles : List ℕ) → NextReleases tasks 0 next → JobArrays releases deadlines cycles
      → Earliest next (length tasks) multiple tick → Laying tick next releases deadlines cycles 0
  unfolding lay_out joined
  laying_start tick next releases deadlines cycles h arrays earliest =
      (laying_to 0 tick next releases deadlines cycles 0 (omega arith) (omega arith) h arrays (listed_none releases deadlines cycles) earliest).0

  module _ (tick : ℕ) (next releases deadlines cycles : List ℕ) (count : ℕ) (h : Laying tick next releases deadlines cycles count) where
    -- what is released at the tick is listed too
    module _ (early : tick < multiple) (releases' deadlines' cycles' : List ℕ) (count' : ℕ)
        (more : (jobs : List Job) → ListedJobs jobs count releases deadlines cycles → ListedJobs (jobs ++ jobs_at tasks tick) count' releases' deadlines' cycles') where
      all : ListedJobs (lay_out tasks (tick + 1)) count' releases' deadlines' cycles'
      unfolding lay_out
      all = rw (joined_next tick (jobs_at tasks)) (more (lay_out tasks tick) h.listed)

      pub laying_next : count' ≤ max_jobs → (tick' : ℕ) (next' : List ℕ) → NextReleases tasks (tick + 1) next' → JobArrays releases' deadlines' cycles'
          → Earliest next' (length tasks) multiple tick' → Laying tick' next' releases' deadlines' cycles' count' × (tick < tick')
      laying_next few tick' next' moved arrays earliest =
          let (laid, later) = laying_to (tick + 1) tick' next' releases' deadlines' cycles' count' (omega arith) few moved arrays all earliest in
          (laid, omega arith)

      -- or the jobs are too many
      pub laying_stops : max_jobs < count' → max_jobs < length (lay_out tasks multiple)
      laying_stops many = round_too_many tasks (tick + 1) multiple count' releases' deadlines' cycles' (omega arith) many all

    -- at the end of the multiple
    pub laying_ends : multiple ≤ tick → AllListed (lay_out tasks multiple) count releases deadlines cycles
    laying_ends late =
        let e : tick ≡ multiple = omega (arith, h.within) in
        rw e at (all_listed (lay_out tasks tick) count releases deadlines cycles h.listed h.few)
