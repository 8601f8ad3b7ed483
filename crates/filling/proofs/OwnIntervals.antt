-- Laws of filling an interval of a job's own window: cycles of the job put there keep what holds while it is placed. It is a path
-- that ends where it starts, since the job itself is all that has to be reached.
-- Assumes nothing.
use mathlib.Core.Path.{◌≡◌, refl}
use mathlib.Core.List.{List}
use Prim.Native.Nat.{ℕ, suc, ◌+◌, ◌-◌, ◌*◌, ◌<◌, ◌≤◌}
use native.Mathlib.Omega.{arith}
use lib.Dec.{eqb}
use lib.ListN.{length, get_or, set}
use Rattle.model.specs.Limits.{max_jobs, max_intervals, max_deadline, max_frequency, max_cycles}
use Rattle.model.specs.Sum.{only_if}
use Rattle.model.specs.Plans.{Shares, shares_in}
use Rattle.model.proofs.Sum.{sum_term}
use Rattle.job_sets.specs.IntervalSets.{Added}
use Rattle.workloads.specs.Workloads.{Workload}
use Rattle.workloads.specs.Placement.{Problem, SoundProblem, Open, load_of}
use Rattle.workloads.specs.Arrays.{numbers_in, problem_in, KeptPast}
use Rattle.workloads.proofs.Capacity.{open-below}
use Rattle.workloads.proofs.SharesTable.{place_below, place_in, kept_refl, kept_set}
use Rattle.searching.specs.Reached.{Reached}
use Rattle.searching.proofs.ReachedRange.{reached_start}
use Rattle.paths.specs.Placing.{Placing}
use Rattle.paths.specs.Paths.{Grown, Moving}
use Rattle.paths.specs.Moves.{put_at}
use Rattle.paths.specs.FilledTargets.{PlacingTables}
use Rattle.paths.proofs.Placing.{placed_most}
use Rattle.paths.proofs.GrownShares.{grown_put}
use Rattle.paths.proofs.HeldJobs.{holding_put}
use Rattle.paths.proofs.PathSteps.{moving_start, moving_end, new_load}
use Rattle.paths.proofs.FillSteps.{room_less, room_most}

-- cycles of the job put into an interval in which it is open
module _ {p : Problem} (sound : SoundProblem p) {before after : Shares} {prices lefts : ℕ → ℕ} {job left band interval amount : ℕ}
    (placing : Placing p before prices lefts job left band) (is_open_true : Open p interval job) (some : 0 < amount)
    (room : load_of p before interval + amount ≤ p.size interval * p.frequency (suc band)) (put : Grown p before after interval job amount) where
  now : Reached p before job 1 (λ s. job) (λ s. 0) (p.first job) (p.last job)
  now = reached_start sound placing.job_below (λ s. job) (λ s. 0) refl

  moving : Moving p before before prices band amount interval interval 1 1 (λ s. job)
  moving = moving_start sound placing now is_open_true.from is_open_true.to some room

  own_placing : {rest : ℕ} → left ≡ rest + amount → Placing p after prices lefts job rest band
  own_placing all = moving_end sound placing now moving is_open_true put all

  own_load : (i : ℕ) → i < p.intervals → load_of p after i ≡ load_of p before i + only_if (eqb i interval) amount
  own_load = new_load sound placing now moving is_open_true put

module _ {work : Workload} {table room holders : List ℕ} {prices lefts : ℕ → ℕ} {job left band : ℕ}
    (tables : PlacingTables work table room holders prices lefts job left band) {interval : ℕ} (is_open_true : Open (problem_in work) interval job) where
  own_inside : interval < work.intervals
  own_inside = open-below tables.stored.sound.sound tables.placing.job_below is_open_true

  pub own_small : interval < max_intervals
  own_small = omega (arith, own_inside, tables.stored.sound.intervals_most)

  pub own_job : job < max_jobs
  own_job = omega (arith, tables.placing.job_below, tables.stored.sound.jobs_most)

  -- its share stands in the table
  pub own_place : interval * work.jobs + job < length table
  own_place = place_in table tables.stored.table-length own_inside tables.placing.job_below

  -- the room is no more than what an interval holds
  pub own_room : numbers_in room interval ≤ max_deadline * max_frequency
  own_room = room_most tables interval own_inside

  -- the share can grow
  pub own_share : get_or table (interval * work.jobs + job) 0 ≤ max_cycles
  own_share =
      let below = tables.placing.job_below in
      omega (
        arith,
        sum_term work.intervals (λ i. shares_in work.jobs table i job) interval own_inside,
        placed_most tables.placing job below,
        tables.stored.sound.cycles_most job below,
      )

  module _ {amount : ℕ} (some : 0 < amount) (within : amount ≤ left) (most : amount ≤ numbers_in room interval)
      {after holders-after : List ℕ} (is_after : after ≡ put_at table (interval * work.jobs + job) amount)
      (is_held_lem : Added holders holders-after interval job) where
    pub own_kept : KeptPast (work.intervals * work.jobs) table after
    own_kept = rw is_after (kept_set (kept_refl _ table) _ _ (place_below own_inside tables.placing.job_below))

    grown : Grown (problem_in work) (shares_in work.jobs table) (shares_in work.jobs after) interval job amount
    grown = rw is_after (grown_put own_inside tables.placing.job_below table tables.stored.table-length)

    fits : load_of (problem_in work) (shares_in work.jobs table) interval + amount ≤ numbers_in work.size interval * numbers_in work.frequency (suc band)
    fits = omega (arith, tables.stored.room_at.room_is interval own_inside)

    pub own_filled : PlacingTables work after (set room interval (get_or room interval 0 - amount)) holders-after prices lefts job (left - amount) band
    own_filled =
        let sound = tables.stored.sound in
        record {
          stored =
              record {
                sound = sound;
                table-length = omega (arith, own_kept.same_length, tables.stored.table-length);
                room_at =
                    room_less tables.stored.room_at own_inside most (own_load sound.sound tables.placing is_open_true some fits grown)
                    (omega (arith, sound.intervals_most, tables.stored.room_at.room_length));
                holding = holding_put sound.jobs_most tables.stored.holding some grown is_held_lem;
              };
          placing = own_placing sound.sound tables.placing is_open_true some fits grown (omega arith);
        }
