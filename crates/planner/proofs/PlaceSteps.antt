-- Laws of placing jobs in plain arrays: bands begin and end; a job has its turn; what is left goes along a path where a target is found,
-- and prices are raised where the search is closed; then the next job has its turn.
-- Assumes nothing.
use mathlib.Core.Path.{◌≡◌, ap, ◌∙◌}
use mathlib.Core.List.{List}
use Prim.Native.Nat.{ℕ, suc, ◌+◌, ◌-◌, ◌*◌, ◌<◌, ◌≤◌}
use native.Mathlib.Numerals.{add-one}
use native.Mathlib.Omega.{arith}
use lib.ListN.{length, replicate, set, length-replicate}
use lib.Seq.{get_or-set_same}
use Rattle.model.specs.Limits.{max_jobs, max_deadline, max_frequency, max_intervals}
use Rattle.model.specs.Plans.{shares_in}
use Rattle.model.proofs.Sum.{sum_zero}
use Rattle.job_sets.specs.IntervalSets.{set_words}
use Rattle.workloads.specs.Workloads.{Workload}
use Rattle.workloads.specs.Placement.{Open, load_of}
use Rattle.workloads.specs.RangesFit.{RangesFit}
use Rattle.workloads.specs.Arrays.{numbers_in, problem_in, SoundWorkload}
use Rattle.workloads.proofs.Capacity.{capacity_most}
use Rattle.workloads.proofs.SharesTable.{place_below}
use Rattle.workloads.proofs.StoredNumbers.{zeros}
use Rattle.searching.specs.Reached.{Closed}
use Rattle.searching.specs.Reaching.{SearchState, ToSearch, Searched}
use Rattle.paths.specs.Placing.{Placing}
use Rattle.paths.specs.FilledTargets.{PlacingTables, CanFill, Filled}
use Rattle.paths.proofs.HeldJobs.{holding_start}
use Rattle.prices.specs.RisingPrices.{Raised}
use Rattle.filling.specs.Filling.{FillingTables}
use Rattle.filling.proofs.Turns.{turn_end, left_same}
use Rattle.planner.specs.PlacedTables.{PlacedTables, BandStart}
use Rattle.planner.specs.BandPasses.{CanRaise}
use Rattle.planner.proofs.BandOrder.{filling_none, filling_passed, filling_next, filling_end, placing_lower}
use Rattle.planner.proofs.ClosedRange.{placing_raised}
use Rattle.planner.proofs.FullRange.{range_order, next_band}

-- nothing is placed
pub tables_start : {work : Workload} → SoundWorkload work → length work.cycles ≡ max_jobs → (table : List ℕ)
    → work.intervals * work.jobs ≤ length table → ((k : ℕ) → k < work.intervals * work.jobs → numbers_in table k ≡ 0)
    → {room holders prices : List ℕ} → room ≡ replicate max_intervals 0 → holders ≡ replicate set_words 0 → prices ≡ replicate max_intervals 0
    → BandStart work table room holders work.cycles (numbers_in prices) 0
tables_start {work} sound cycles_length table long cleared no_room no-holder no-price =
    let no_share : (i j : ℕ) → i < work.intervals → j < work.jobs → shares_in work.jobs table i j ≡ 0 =
    λ i j inside below. cleared (i * work.jobs + j) (place_below inside below) in
    rw (no_room, no-holder, no-price)
    record {
      stored =
          record {
            sound = sound;
            table-length = long;
            room_at =
                record {
                  room_length = length-replicate {A = ℕ} max_intervals 0;
                  room_is = λ i inside.
                      let none = sum_zero work.jobs (λ j below. no_share i j inside below) in
                      rw (zeros max_intervals i, sound.sound.start) (omega arith);
                  room_past = λ i past. zeros max_intervals i;
                };
            holding = holding_start no_share;
          };
      left_length = cycles_length;
      filling = filling_none sound.sound (shares_in work.jobs table) (numbers_in (replicate max_intervals 0)) no_share (λ i inside. zeros max_intervals i);
    }

-- what an interval still takes up to a higher frequency
wider : (room load size low high : ℕ) → low ≤ high → room + load ≡ size * low → room + size * (high - low) + load ≡ size * high
wider room load size low high order e =
    let all : high ≡ low + (high - low) = omega arith in
    omega (arith, ap (λ (x : ℕ). size * x) all)

module _ {work : Workload} {table room holders left : List ℕ} {prices : ℕ → ℕ} {band : ℕ} (start : BandStart work table room holders left prices band) where
  -- a band begins: the room grows by what it adds
  module _ (more : band < work.bands) where
    room_wider : (i : ℕ) → i < work.intervals
        → numbers_in room i + numbers_in work.size i * (numbers_in work.frequency (suc band) - numbers_in work.frequency band)
        + load_of (problem_in work) (shares_in work.jobs table) i
        ≡ numbers_in work.size i * numbers_in work.frequency (suc band)
    room_wider i inside =
        wider (numbers_in room i) _ (numbers_in work.size i) (numbers_in work.frequency band) (numbers_in work.frequency (suc band))
        (omega (arith, start.stored.sound.sound.rises band more)) (start.stored.room_at.room_is i inside)

    pub band_order : numbers_in work.frequency band ≤ numbers_in work.frequency (band + 1)
    band_order = rw add-one (omega (arith, start.stored.sound.sound.rises band more))

    pub band_fits : (i : ℕ) → i < work.intervals
        → numbers_in room i + numbers_in work.size i * (numbers_in work.frequency (band + 1) - numbers_in work.frequency band) ≤ max_deadline * max_frequency
    band_fits i inside = rw add-one (omega (arith, room_wider i inside, capacity_most start.stored.sound i (suc band) inside more))

    pub band_opens : {after : List ℕ} → length after ≡ max_intervals
        → ((i : ℕ) → i < work.intervals
        → numbers_in after i ≡ numbers_in room i + numbers_in work.size i * (numbers_in work.frequency (band + 1) - numbers_in work.frequency band))
        → ((i : ℕ) → work.intervals ≤ i → numbers_in after i ≡ numbers_in room i)
        → FillingTables work table after holders left prices band 0
    band_opens {after} same_length grows stays =
        record {
          stored =
              record {
                sound = start.stored.sound;
                table-length = start.stored.table-length;
                room_at =
                    record {
                      room_length = same_length;
                      room_is = λ i inside. rw (rw add-one at (grows i inside)) (room_wider i inside);
                      room_past = λ i past. stays i past ∙ start.stored.room_at.room_past i past;
                    };
                holding = start.stored.holding;
              };
          band_below = more;
          left_length = start.left_length;
          filling = start.filling;
        }

-- past the last band
module _ {work : Workload} {table room holders left : List ℕ} {prices : ℕ → ℕ} {band : ℕ} (start : BandStart work table room holders left prices band)
    (end : band ≡ work.bands) where
  end_room : (i : ℕ) → i < work.intervals
      → numbers_in room i + load_of (problem_in work) (shares_in work.jobs table) i ≡ numbers_in work.size i * numbers_in work.frequency work.bands
  end_room i inside = rw end at (start.stored.room_at.room_is i inside)

  pub end_fits : (i : ℕ) → i < work.intervals
      → (numbers_in work.size i * numbers_in work.frequency work.bands ≤ max_deadline * max_frequency)
      × (numbers_in room i ≤ numbers_in work.size i * numbers_in work.frequency work.bands)
  end_fits i inside =
      (capacity_most start.stored.sound i work.bands inside (omega arith), omega (arith, end_room i inside))

-- the loads are what the room lacks
pub tables_end : {work : Workload} {table room holders left prices : List ℕ} {band : ℕ} → BandStart work table room holders left (numbers_in prices) band
    → band ≡ work.bands → length prices ≡ max_intervals → {loads : List ℕ} → length loads ≡ max_intervals
    → ((i : ℕ) → i < work.intervals → numbers_in loads i + numbers_in room i ≡ numbers_in work.size i * numbers_in work.frequency work.bands)
    → ((i : ℕ) → work.intervals ≤ i → numbers_in loads i ≡ numbers_in room i)
    → PlacedTables work table loads prices
tables_end start end prices_length same_length sums stays =
    record {
      stored =
          record {
            table-length = start.stored.table-length;
            loads_length = same_length;
            loads_are = λ i inside. omega (arith, sums i inside, end_room start end i inside);
            loads_past = λ i past. stays i past ∙ start.stored.room_at.room_past i past;
          };
      prices_length = prices_length;
      placed = filling_end start.filling start.stored.sound.sound (omega arith);
    }

module _ {work : Workload} {table room holders left : List ℕ} {prices : ℕ → ℕ} {band count : ℕ}
    (tables : FillingTables work table room holders left prices band count) where
  -- the next band
  pub band_next : count ≡ work.jobs → BandStart work table room holders left prices (band + 1)
  band_next all =
      rw add-one (record { stored = tables.stored; left_length = tables.left_length; filling = filling_next tables.filling all })

  -- one job more has had its turn along paths
  turn_passed : ((i : ℕ) → i < work.intervals → 0 < numbers_in left count → Open (problem_in work) i count → band < prices i)
      → FillingTables work table room holders left prices band (count + 1)
  turn_passed here =
      record {
        stored = tables.stored;
        band_below = tables.band_below;
        left_length = tables.left_length;
        filling = rw add-one (filling_passed tables.filling here);
      }

module _ {work : Workload} {table room holders : List ℕ} {prices lefts : ℕ → ℕ} {job left band : ℕ}
    (tables : PlacingTables work table room holders prices lefts job left band) where
  pub place_search : ToSearch (problem_in work) (shares_in work.jobs table) room holders job band
  place_search =
      record {
        sound = tables.stored.sound.sound;
        jobs_most = tables.stored.sound.jobs_most;
        intervals_most = tables.stored.sound.intervals_most;
        room_at = tables.stored.room_at;
        holding = tables.stored.holding;
        shut = tables.placing.priced.shut;
        job_below = tables.placing.job_below;
      }

  module _ {found : SearchState} (searched : Searched (problem_in work) (shares_in work.jobs table) job band found) where
    -- a target is reached
    pub place_fill : 0 < left → found.target < max_intervals → CanFill work table room holders found band left
    place_fill lacks is-target =
        record {
          lacks = lacks;
          has_room = searched.target is-target;
          prices = prices;
          lefts = lefts;
          job = job;
          tables = tables;
          reaching = searched.reaching;
        }

    pub place_filled : {after room-after holders-after : List ℕ} {amount : ℕ} → Filled work table after room-after holders-after found band left amount
        → PlacingTables work after room-after holders-after prices lefts job (left - amount) band
    place_filled filled =
        record { stored = filled.stored; placing = filled.placing prices lefts job tables.placing searched.reaching }

    -- no target is reached
    pub search_closed : max_intervals ≤ found.target
        → Closed (problem_in work) (shares_in work.jobs table) job band found.start found.end
    search_closed no_target =
        record {
          count = found.count;
          reached = numbers_in found.reached;
          source = numbers_in found.source;
          now = searched.reaching.now;
          scanned = searched.closed no_target;
        }

  -- the prices of a closed range rise past the band
  module _ {start end : ℕ} (closed : Closed (problem_in work) (shares_in work.jobs table) job band start end) where
    pub closed_range : (start ≤ end) × (end ≤ max_intervals)
    closed_range = (
      range_order tables.stored.sound.sound tables.placing closed,
      omega (arith, closed.now.end_below, tables.stored.sound.intervals_most),
    )

    module _ (fit : RangesFit (problem_in work)) (lacks : 0 < left) {after : ℕ → ℕ} (raised : Raised start end (band + 1) prices after) where
      next_placing : Placing (problem_in work) (shares_in work.jobs table) after lefts job left (suc band)
      next_placing =
          let sound = tables.stored.sound.sound in
          placing_raised sound tables.placing closed (next_band sound tables.placing closed fit lacks) (rw add-one at raised)

      pub raised_tables : PlacingTables work table room holders after lefts job left band
      raised_tables = record { stored = tables.stored; placing = placing_lower next_placing }

      pub raised_past : (i : ℕ) → i < work.intervals → Open (problem_in work) i job → band < after i
      raised_past i inside is_open_true = omega (arith, next_placing.reaches i inside is_open_true)

-- A job's turn in the pass along paths.
module _ {work : Workload} {table room holders prices left : List ℕ} {band job : ℕ} (can : CanRaise work table room holders prices left band job)
    {rest : ℕ} where
  -- it has none left, or only in intervals of higher prices
  pub raise_passed : numbers_in left job ≡ rest
      → ((i : ℕ) → i < work.intervals → 0 < numbers_in left job → Open (problem_in work) i job → band < numbers_in prices i)
      → CanRaise work table room holders prices (set left job rest) band (job + 1)
  raise_passed is here =
      rw (left_same left job is) (record { fit = can.fit; prices_length = can.prices_length; tables = turn_passed can.tables here })

  -- it was moved, and has none left or prices were raised
  pub raise_moved : job < work.jobs → {after room-after holders-after prices-after : List ℕ} → length prices-after ≡ max_intervals
      → ((i : ℕ) → numbers_in prices i ≤ numbers_in prices-after i)
      → PlacingTables work after room-after holders-after (numbers_in prices-after) (numbers_in left) job rest band
      → (0 < rest → (i : ℕ) → i < work.intervals → Open (problem_in work) i job → band < numbers_in prices-after i)
      → CanRaise work after room-after holders-after prices-after (set left job rest) band (job + 1)
  raise_moved below same_length rises moved passed =
      let own : numbers_in (set left job rest) job ≡ rest =
      get_or-set_same left job rest 0 (omega (arith, can.tables.left_length, can.tables.stored.sound.jobs_most)) in
      record {
        fit = can.fit;
        prices_length = same_length;
        tables =
            turn_passed (turn_end can.tables below (omega arith) rises moved)
            (λ i inside has is_open_true. passed (rw own at has) i inside is_open_true);
      }
