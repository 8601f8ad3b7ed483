-- Laws of filling a target: what can go along its path, and what is stored then.
-- Assumes nothing.
use mathlib.Core.Path.{◌≡◌, refl, ◌∙◌}
use mathlib.Core.List.{List}
use Prim.Native.Nat.{ℕ, suc, ◌+◌, ◌-◌, ◌*◌, ◌<◌, ◌≤◌}
use native.Mathlib.Decide.{ℕ_discrete}
use native.Mathlib.Omega.{arith}
use lib.ListN.{length, get_or, set, length-set}
use lib.Seq.{get_or-set_same, get_or-set_other}
use lib.Dec.{eqb}
use borrow.Author.Tests.{eq-eqb, ne_eqb}
use Rattle.model.specs.Limits.{max_frequency, max_deadline}
use Rattle.model.specs.Sum.{only_if}
use Rattle.model.specs.Plans.{Shares, shares_in}
use Rattle.workloads.specs.Workloads.{Workload}
use Rattle.workloads.specs.Placement.{Problem, load_of}
use Rattle.workloads.specs.Arrays.{numbers_in, problem_in, RoomAt}
use Rattle.workloads.proofs.Capacity.{capacity_most}
use Rattle.searching.specs.Reaching.{SearchState, Reaching}
use Rattle.paths.specs.Placing.{Placing}
use Rattle.paths.specs.Moves.{PathPasses, HoldsPath, CanWalk, ToMove, CanMove, MovedTables}
use Rattle.paths.specs.FilledTargets.{PlacingTables, CanFill, Filled}

-- the load of one interval grows, and its room falls by as much
pub room_less : {p : Problem} {before after : Shares} {frequency : ℕ} {room : List ℕ} → RoomAt p before frequency room → {target amount : ℕ} → target < p.intervals
    → amount ≤ numbers_in room target → ((i : ℕ) → i < p.intervals → load_of p after i ≡ load_of p before i + only_if (eqb i target) amount)
    → p.intervals ≤ length room → RoomAt p after frequency (set room target (get_or room target 0 - amount))
room_less {p} {before} {after} {frequency} {room} room_at {target} {amount} inside most loads within =
    record {
      room_length = length-set room target _ ∙ room_at.room_length;
      room_is = λ i below. go i below (ℕ_discrete i target);
      room_past = λ i past. get_or-set_other room target i _ 0 (λ e. omega arith) ∙ room_at.room_past i past;
    }
  where
    go : (i : ℕ) → i < p.intervals → Dec (i ≡ target)
        → numbers_in (set room target (get_or room target 0 - amount)) i + load_of p after i ≡ p.size i * frequency
    go i below (yes here) =
        let load = rw (eq-eqb target target refl) at (loads target inside) in
        rw (here, get_or-set_same room target (get_or room target 0 - amount) 0 (omega arith)) (omega (arith, room_at.room_is target inside))
    go i below (no other) =
        let load = rw (ne_eqb i target other) at (loads i below) in
        rw (get_or-set_other room target i (get_or room target 0 - amount) 0 other) (omega (arith, room_at.room_is i below))

-- while a job is placed, no room is more than what an interval holds
pub room_most : {work : Workload} {table room holders : List ℕ} {prices lefts : ℕ → ℕ} {job left band : ℕ}
    → PlacingTables work table room holders prices lefts job left band → (i : ℕ) → i < work.intervals → numbers_in room i ≤ max_deadline * max_frequency
room_most {band = band} tables i inside =
    omega (
      arith,
      tables.stored.room_at.room_is i inside,
      capacity_most tables.stored.sound i (suc band) inside tables.placing.band_below,
    )

module _ {work : Workload} {table room holders : List ℕ} {found : SearchState} {band left : ℕ} (can : CanFill work table room holders found band left) where
  target_inside : found.target < work.intervals
  target_inside = omega (arith, can.has_room.to, can.reaching.now.end_below)

  pub fill_room : 0 < numbers_in room found.target
  fill_room = omega (arith, can.has_room.room, can.tables.stored.room_at.room_is found.target target_inside)

  pub fill_most : numbers_in room found.target ≤ max_deadline * max_frequency
  fill_most = room_most can.tables found.target target_inside

  pub fill_walk : CanWalk work table found
  fill_walk =
      record {
        jobs_most = can.tables.stored.sound.jobs_most;
        intervals_most = can.tables.stored.sound.intervals_most;
        table-length = can.tables.stored.table-length;
        job = can.job;
        reaching = can.reaching;
        from = can.has_room.from;
        to = can.has_room.to;
      }

  module _ {amount : ℕ} (some : 1 ≤ amount) (within : amount ≤ left) (most : amount ≤ numbers_in room found.target) where
    to_move : (prices lefts : ℕ → ℕ) (job : ℕ) → Placing (problem_in work) (shares_in work.jobs table) prices lefts job left band
        → Reaching (problem_in work) (shares_in work.jobs table) job found
        → ToMove (problem_in work) (shares_in work.jobs table) prices lefts job left band found amount
    to_move prices lefts job placing reaching =
        record {
          placing = placing;
          reaching = reaching;
          from = can.has_room.from;
          to = can.has_room.to;
          some = some;
          room = omega (arith, can.tables.stored.room_at.room_is found.target target_inside);
        }

    pub fill_move : {route : List ℕ} → PathPasses work table found amount × HoldsPath work found route
        → CanMove work table holders route found amount
    fill_move (passes, routed) =
        record {
          sound = can.tables.stored.sound;
          table-length = can.tables.stored.table-length;
          holding = can.tables.stored.holding;
          passes = passes;
          routed = routed;
          prices = can.prices;
          lefts = can.lefts;
          job = can.job;
          left = left;
          band = band;
          to_move = to_move can.prices can.lefts can.job can.tables.placing can.reaching;
        }

    -- after the move
    pub filled : {after after-holders : List ℕ} → MovedTables work table after after-holders found amount
        → Filled work table after (set room found.target (get_or room found.target 0 - amount)) after-holders found band left amount
    filled {after} {after-holders} moved =
        record {
          some = some;
          most = within;
          stored =
              record {
                sound = can.tables.stored.sound;
                table-length = omega (arith, moved.kept.same_length, can.tables.stored.table-length);
                room_at =
                    room_less can.tables.stored.room_at target_inside most
                    (moved.moves _ _ _ left band (to_move can.prices can.lefts can.job can.tables.placing can.reaching)).loads
                    (omega (arith, can.tables.stored.sound.intervals_most, can.tables.stored.room_at.room_length));
                holding = moved.holding;
              };
          kept = moved.kept;
          placing = λ prices lefts job placing reaching.
              (moved.moves prices lefts job left band (to_move prices lefts job placing reaching)).placing (left - amount) (omega arith);
        }
