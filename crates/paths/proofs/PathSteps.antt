-- Laws of moving cycles along a path from a target back to the job being placed. Each step puts some cycles of a reached
-- job into the gap and takes them out of the job's source, which is the next gap; the last step puts cycles of the job
-- being placed into the gap. All prices on the path are the band, so new shares stand at the least price of their job,
-- and in the end only the load of the target has changed.
-- Assumes nothing.
use mathlib.Core.Path.{◌≡◌, refl, ◌∙◌}
use mathlib.Core.Logic.{◌⊎◌, inl, inr}
use Prim.Native.Nat.{ℕ, suc, ◌+◌, ◌*◌, ◌<◌, ◌≤◌}
use native.Mathlib.Decide.{ℕ_discrete}
use native.Mathlib.Omega.{arith}
use lib.Dec.{eqb}
use borrow.Author.Tests.{eq-eqb, ne_eqb}
use Rattle.model.specs.Sum.{only_if}
use Rattle.model.specs.Plans.{Shares}
use Rattle.model.proofs.Sum.{sum_term}
use Rattle.workloads.specs.Placement.{Problem, SoundProblem, Open, load_of, placed_of}
use Rattle.searching.specs.Reached.{Reached}
use Rattle.paths.specs.Paths.{Grown, Moving}
use Rattle.paths.specs.Placing.{Placing}
use Rattle.paths.proofs.Placing.{placed_most, price_reached, price_of_target}
use Rattle.paths.proofs.GrownShares.{grown_case, grown_most, grown_load, grown_placed}

module _ {p : Problem} (sound : SoundProblem p) {before : Shares} {prices lefts : ℕ → ℕ} {job left band count start end : ℕ} {reached source : ℕ → ℕ}
    (placing : Placing p before prices lefts job left band) (now : Reached p before job count reached source start end) where
  -- at the start the gap is the target, and nothing has moved
  pub moving_start : {target amount : ℕ} → start ≤ target → target < end → 0 < amount
      → load_of p before target + amount ≤ p.size target * p.frequency (suc band)
      → Moving p before before prices band amount target target count count reached
  moving_start {target} {amount} from to some room =
      let price = price_of_target sound placing now from to (omega arith) in
      record {
        target_price = price;
        room = room;
        shut = placing.priced.shut;
        cheapest = placing.priced.cheapest;
        same_cycles = λ j below. refl;
        gap_below = omega (arith, now.end_below);
        gap_price = price;
        gap_reached = now.covered target from to;
        bound_within = omega arith;
        kept = λ i s inside below. refl;
        loads = λ i inside. refl;
      }

  module _ {shares : Shares} {amount target gap bound : ℕ} (moving : Moving p before shares prices band amount target gap bound count reached) where
    -- no share is more than its job's cycles
    pub moving_share : (i j : ℕ) → i < p.intervals → j < p.jobs → shares i j ≤ p.cycles j
    moving_share i j inside below =
        omega (arith, sum_term p.intervals (λ i. shares i j) i inside, moving.same_cycles j below, placed_most placing j below)

    -- cycles of a job that is open in the gap, and nowhere at a price below the band, are put into the gap
    module _
        {mover : ℕ} (is_open_true : Open p gap mover) (least : (other : ℕ) → other < p.intervals → Open p other mover → band ≤ prices other)
        {after : Shares} (put : Grown p shares after gap mover amount)
      where
        put_shut : (i j : ℕ) → i < p.intervals → j < p.jobs → 0 < after i j → Open p i j
        put_shut i j inside below share = go (grown_case put i j inside below)
          where
            go : (after i j ≡ shares i j) ⊎ ((i ≡ gap) × (j ≡ mover)) → Open p i j
            go (inl same) = moving.shut i j inside below (omega arith)
            go (inr (there, its)) = rw (there, its) is_open_true

        put_cheapest : (i other j : ℕ) → i < p.intervals → other < p.intervals → j < p.jobs → 0 < after i j → Open p other j
            → prices i ≤ prices other
        put_cheapest i other j inside next below share open-other = go (grown_case put i j inside below)
          where
            go : (after i j ≡ shares i j) ⊎ ((i ≡ gap) × (j ≡ mover)) → prices i ≤ prices other
            go (inl same) = moving.cheapest i other j inside next below (omega arith) open-other
            go (inr (there, its)) = rw there (omega (arith, moving.gap_price, least other next (rw its at open-other)))

    -- One step: the cycles put into the gap are taken out of the source of their job.
    module _
        {s : ℕ} (more : 0 < s) (below : s < bound) (is_open_true : Open p gap (reached s))
        {between after : Shares} (put : Grown p shares between gap (reached s) amount) (taken : Grown p after between (source s) (reached s) amount)
      where
        listed : s < count
        listed = omega (arith, moving.bound_within)

        source_below : source s < p.intervals
        source_below = now.source_below s more listed

        least : (other : ℕ) → other < p.intervals → Open p other (reached s) → band ≤ prices other
        least other next open-other = price_reached sound placing now listed open-other

        source_price : prices (source s) ≡ band
        source_price =
            let (r, less, from) = now.source_reached s more listed in
            let low = price_reached sound placing now (omega arith) from in
            let high = placing.priced.cheapest (source s) gap (reached s) source_below moving.gap_below (now.job_below s listed)
            (now.source_share s more listed) is_open_true in
            omega (arith, moving.gap_price)

        -- the jobs listed before it are not touched
        untouched : (i r : ℕ) → i < p.intervals → r < s → after i (reached r) ≡ shares i (reached r)
        untouched i r inside less =
            let other : reached r ≡ reached s → ⊥ = now.differ r s less listed in
            let job_below = now.job_below r (omega arith) in
            omega (arith, put.other_job i (reached r) inside job_below other, taken.other_job i (reached r) inside job_below other)

        pub moving_step : Moving p before after prices band amount target (source s) s count reached
        moving_step =
            record {
              target_price = moving.target_price;
              room = moving.room;
              shut = λ i j inside below share. put_shut is_open_true least put i j inside below (omega (arith, grown_most taken i j inside below));
              cheapest = λ i other j inside next below share.
                  put_cheapest is_open_true least put i other j inside next below (omega (arith, grown_most taken i j inside below));
              same_cycles = λ j below. omega (arith, grown_placed put j below, grown_placed taken j below, moving.same_cycles j below);
              gap_below = source_below;
              gap_price = source_price;
              gap_reached = now.source_reached s more listed;
              bound_within = omega arith;
              kept = λ i r inside less. untouched i r inside less ∙ moving.kept i r inside (omega arith);
              loads = λ i inside. omega (arith, grown_load put i inside, grown_load taken i inside, moving.loads i inside);
            }

    -- The last step: the cycles put into the gap are those of the job being placed.
    module _ (is_open_true : Open p gap job) {after : Shares} (put : Grown p shares after gap job amount) where
      pub new_load : (i : ℕ) → i < p.intervals → load_of p after i ≡ load_of p before i + only_if (eqb i target) amount
      new_load i inside = grown_load put i inside ∙ moving.loads i inside

      new_placed : (j : ℕ) → j < p.jobs → placed_of p after j ≡ placed_of p before j + only_if (eqb j job) amount
      new_placed j below = omega (arith, grown_placed put j below, moving.same_cycles j below)

      new_high : (i : ℕ) → i < p.intervals → load_of p after i ≤ p.size i * p.frequency (suc (prices i))
      new_high i inside = go (ℕ_discrete i target)
        where
          go : Dec (i ≡ target) → load_of p after i ≤ p.size i * p.frequency (suc (prices i))
          go (yes there) =
              let load : load_of p after target ≡ load_of p before target + amount = rw (eq-eqb i target there, there) at (new_load i inside) in
              rw (there, moving.target_price) (omega (arith, moving.room))
          go (no other) =
              let load = rw (ne_eqb i target other) at (new_load i inside) in
              omega (arith, placing.priced.high i inside)

      others_placed : (j : ℕ) → j < p.jobs → (j ≡ job → ⊥) → placed_of p after j ≡ placed_of p before j
      others_placed j below other = let e = rw (ne_eqb j job other) at (new_placed j below) in omega arith

      pub moving_end : {rest : ℕ} → left ≡ rest + amount → Placing p after prices lefts job rest band
      moving_end all =
          record {
            priced =
                record {
                  shut = put_shut is_open_true placing.reaches put;
                  band = placing.priced.band;
                  low = λ i inside. omega (arith, placing.priced.low i inside, new_load i inside);
                  high = new_high;
                  cheapest = put_cheapest is_open_true placing.reaches put;
                };
            job_below = placing.job_below;
            here =
                let own = rw (eq-eqb job job refl) at (new_placed job placing.job_below) in
                omega (arith, placing.here);
            others = λ j below other. omega (arith, placing.others j below other, others_placed j below other);
            band_below = placing.band_below;
            reaches = placing.reaches;
          }
