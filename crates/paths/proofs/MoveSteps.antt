-- Laws of moving cycles along a path in plain arrays.
-- Assumes nothing.
use mathlib.Core.Path.{◌≡◌, sym}
use mathlib.Core.List.{List}
use Prim.Native.Nat.{ℕ, ◌+◌, ◌*◌, ◌<◌, ◌≤◌}
use native.Mathlib.Omega.{arith}
use lib.ListN.{length, get_or, length-set}
use Rattle.model.specs.Limits.{max_deadline, max_frequency, max_cycles}
use Rattle.model.specs.Plans.{shares_in}
use Rattle.job_sets.specs.IntervalSets.{set_words, Added}
use Rattle.workloads.specs.Workloads.{Workload}
use Rattle.workloads.specs.Placement.{Open}
use Rattle.workloads.specs.Arrays.{numbers_in, problem_in, Holding, KeptPast}
use Rattle.workloads.proofs.SharesTable.{place_below, place_in, kept_refl, kept_set}
use Rattle.workloads.proofs.Capacity.{capacity_most}
use Rattle.searching.specs.Reaching.{SearchState}
use Rattle.paths.specs.Paths.{Grown, first_open, Passes, Moving}
use Rattle.paths.specs.Moves.{put_at, taken_at, Lessened, ToMove, CanMove, MovedTables}
use Rattle.paths.proofs.PathLimit.{first-open, passes_next}
use Rattle.paths.proofs.PathSteps.{moving_start, moving_share, moving_step, moving_end, new_load}
use Rattle.paths.proofs.GrownShares.{put_most, grown_put, grown_taken}
use Rattle.paths.proofs.HeldJobs.{holding_put, holding_taken}

abbrev MovingTable : Workload → (before table : List ℕ) → SearchState → (amount gap : ℕ) → (prices : ℕ → ℕ) → (band bound : ℕ) → Type 0
MovingTable work before table found amount gap prices band bound =
    Moving (problem_in work) (shares_in work.jobs before) (shares_in work.jobs table) prices band amount found.target gap bound found.count
    (numbers_in found.reached)

-- the place in the table of a reached job's share
abbrev place_of : Workload → SearchState → (interval s : ℕ) → ℕ
place_of work found interval s = interval * work.jobs + numbers_in found.reached s

-- The amount is taken out of the gap, and reached job s is the first that is open there. What holds of the shares holds with
-- all prices with which the job can be placed.
pub record MoveAt (work : Workload) (before : List ℕ) (found : SearchState) (amount : ℕ) (table holders : List ℕ) (gap s : ℕ) : Type 0 where
  pub kept : KeptPast (work.intervals * work.jobs) before table
  pub holding : Holding (problem_in work) (shares_in work.jobs table) holders
  pub is_first : s ≡ first_open (problem_in work) found.count (numbers_in found.reached) gap
  pub passes : Passes (problem_in work) (shares_in work.jobs before) found.count (numbers_in found.reached) (numbers_in found.source) amount gap
  pub moving : (prices lefts : ℕ → ℕ) (job left band : ℕ) → ToMove (problem_in work) (shares_in work.jobs before) prices lefts job left band found amount
      → (bound : ℕ) × MovingTable work before table found amount gap prices band bound

module _ {work : Workload} {before holders-before route : List ℕ} {found : SearchState} {amount : ℕ}
    (can : CanMove work before holders-before route found amount) where
  -- at the target
  pub move_start : {s : ℕ} → s ≡ first_open (problem_in work) found.count (numbers_in found.reached) found.target
      → MoveAt work before found amount before holders-before found.target s
  move_start is_first =
      record {
        kept = kept_refl _ before;
        holding = can.holding;
        is_first = is_first;
        passes = can.passes;
        moving = λ prices lefts job left band to_move.
            let reached = to_move.reaching.now in
            (found.count, moving_start can.sound.sound to_move.placing reached to_move.from to_move.to to_move.some to_move.room);
      }

  module _ {table holders : List ℕ} {gap s : ℕ} (now : MoveAt work before found amount table holders gap s) where
    room : work.intervals * work.jobs ≤ length table
    room = omega (arith, can.table-length, now.kept.same_length)

    -- the first job that is open in the gap
    first : {prices : ℕ → ℕ} {band bound : ℕ} → MovingTable work before table found amount gap prices band bound
        → (s < bound) × Open (problem_in work) gap (numbers_in found.reached s)
    first moving =
        rw now.is_first (first-open (problem_in work) found.count (numbers_in found.reached) gap moving.bound_within moving.gap_reached)

    own : (bound : ℕ) × MovingTable work before table found amount gap can.prices can.band bound
    own = now.moving can.prices can.lefts can.job can.left can.band can.to_move

    pub move_listed : s < found.count
    move_listed = omega (arith, (first own.1).0, own.1.bound_within)

    pub move_gap : gap < work.intervals
    move_gap = own.1.gap_below

    -- the share of a reached job in the gap stands in the table, and can grow
    module _ {r : ℕ} (below : r < found.count) where
      pub move_place : place_of work found gap r < length table
      move_place = place_in table room move_gap (can.to_move.reaching.now.job_below r below)

      pub move_fits : get_or table (place_of work found gap r) 0 + amount ≤ max_cycles + max_deadline * max_frequency
      move_fits =
          let to_move = can.to_move in
          let job_below = to_move.reaching.now.job_below r below in
          let share = moving_share can.sound.sound to_move.placing to_move.reaching.now own.1 gap _ move_gap job_below in
          let target : found.target < work.intervals = omega (arith, to_move.to, to_move.reaching.now.end_below) in
          omega (
            arith,
            can.sound.cycles_most _ job_below,
            to_move.room,
            capacity_most can.sound found.target _ target to_move.placing.band_below,
          )

    -- a step
    module _ (more : 0 < s) where
      mover_below : numbers_in found.reached s < work.jobs
      mover_below = can.to_move.reaching.now.job_below s move_listed

      pub source_below : numbers_in found.source s < work.intervals
      source_below = can.to_move.reaching.now.source_below s more move_listed

      source_place : place_of work found (numbers_in found.source s) s < work.intervals * work.jobs
      source_place =
          let reached = can.to_move.reaching.now in
          place_below (reached.source_below s more move_listed) (reached.job_below s move_listed)

      -- the source has the amount
      source_enough : amount ≤ get_or table (place_of work found (numbers_in found.source s) s) 0
      source_enough =
          let kept = own.1.kept (numbers_in found.source s) s (can.to_move.reaching.now.source_below s more move_listed) (first own.1).0 in
          omega (arith, (passes_next now.passes (sym now.is_first) more).0)

      -- the amount is put into the gap
      module _ {put : List ℕ} {put-holders : List ℕ} (is-put : put ≡ put_at table (place_of work found gap s) amount)
          (is_held_lem : Added holders put-holders gap (numbers_in found.reached s)) where
        put_length : length put ≡ length table
        put_length = rw is-put (length-set table (place_of work found gap s) (get_or table (place_of work found gap s) 0 + amount))

        put_room : work.intervals * work.jobs ≤ length put
        put_room = omega (arith, room, put_length)

        pub put_place : place_of work found (numbers_in found.source s) s < length put
        put_place = omega (arith, put_room, source_place)

        pub put_enough : amount ≤ get_or put (place_of work found (numbers_in found.source s) s) 0
        put_enough =
            rw is-put
            (omega (arith, source_enough, put_most table _ amount (move_place move_listed) (place_of work found (numbers_in found.source s) s)))

        put_grown : Grown (problem_in work) (shares_in work.jobs table) (shares_in work.jobs put) gap (numbers_in found.reached s) amount
        put_grown = rw is-put (grown_put move_gap mover_below table room)

        put_holding : Holding (problem_in work) (shares_in work.jobs put) put-holders
        put_holding =
            holding_put can.sound.jobs_most now.holding can.to_move.some put_grown is_held_lem

        put_kept : KeptPast (work.intervals * work.jobs) before put
        put_kept = rw is-put (kept_set now.kept _ _ (place_below move_gap mover_below))

        pub put_length_holders : length put-holders ≡ set_words
        put_length_holders = put_holding.holders_length

        -- and taken out of the source
        pub move_next : {after after-holders : List ℕ} {next : ℕ}
            → after ≡ taken_at put (place_of work found (numbers_in found.source s) s) amount
            → Lessened put-holders after-holders (numbers_in found.source s) (numbers_in found.reached s)
            (get_or put (place_of work found (numbers_in found.source s) s) 0) amount
            → next ≡ first_open (problem_in work) found.count (numbers_in found.reached) (numbers_in found.source s)
            → MoveAt work before found amount after after-holders (numbers_in found.source s) next
        move_next {after} {after-holders} is_after is-taken is-next =
            rw is_after
            (record {
              kept = kept_set put_kept _ _ source_place;
              holding =
                  holding_taken can.sound.jobs_most put_holding can.to_move.some taken_grown is-taken;
              is_first = is-next;
              passes = (passes_next now.passes (sym now.is_first) more).1;
              moving = λ prices lefts job left band to_move.
                  let (bound, moving) = now.moving prices lefts job left band to_move in
                  let (below, is_open_true) = first moving in (
                    s,
                    moving_step can.sound.sound to_move.placing to_move.reaching.now moving more below is_open_true put_grown taken_grown,
                  );
            })
          where
            taken_grown : Grown (problem_in work) (shares_in work.jobs (taken_at put (place_of work found (numbers_in found.source s) s) amount))
                (shares_in work.jobs put) (numbers_in found.source s) (numbers_in found.reached s) amount
            taken_grown = grown_taken source_below mover_below put put_room put_enough

    -- the last step
    pub move_end : s ≤ 0 → {after after-holders : List ℕ} → after ≡ put_at table (place_of work found gap 0) amount
        → Added holders after-holders gap (numbers_in found.reached 0)
        → MovedTables work before after after-holders found amount
    move_end last {after} {after-holders} is_after is_held_lem =
        record {
          kept = rw is_after (kept_set now.kept _ _ (place_below move_gap first_below));
          holding =
              rw is_after
              (holding_put can.sound.jobs_most now.holding can.to_move.some (grown_put move_gap first_below table room) is_held_lem);
          moves = λ prices lefts job left band to_move.
              let (bound, moving) = now.moving prices lefts job left band to_move in
              let origin = to_move.reaching.now.origin in
              let e : s ≡ 0 = omega arith in
              let is_open_true : Open (problem_in work) gap job = rw (e, origin) at (first moving).1 in
              let put = grown_put moving.gap_below to_move.placing.job_below table room in
              let own_place : after ≡ put_at table (gap * work.jobs + job) amount = rw origin at is_after in
              rw own_place
              (record {
                placing = λ rest all. moving_end can.sound.sound to_move.placing to_move.reaching.now moving is_open_true put all;
                loads = new_load can.sound.sound to_move.placing to_move.reaching.now moving is_open_true put;
              });
        }
      where
        first_below : numbers_in found.reached 0 < work.jobs
        first_below = can.to_move.reaching.now.job_below 0 can.to_move.reaching.now.some
