-- Laws of placing in few steps: what was placed for a site can be filled anew, and the prices that fit it still fit.
-- Assumes nothing.
use mathlib.Core.Path.{◌≡◌, sym, ◌∙◌}
use mathlib.Core.Bool.{true}
use mathlib.Core.List.{List}
use Prim.Native.Nat.{ℕ, ◌^◌, ◌<◌}
use native.Mathlib.Omega.{arith}
use lib.ListN.{length}
use Rattle.model.specs.Limits.{max_jobs}
use Rattle.model.specs.Sum.{sum}
use Rattle.model.specs.Plans.{shares_in}
use Rattle.model.specs.Intervals.{interval_count}
use Rattle.model.specs.Sites.{Site, ValidSite}
use Rattle.job_sets.specs.JobSets.{is_member}
use Rattle.job_sets.specs.IntervalSets.{set_in}
use Rattle.intervals.specs.OpenSets.{HoldsOpen}
use Rattle.workloads.specs.Workloads.{Workload}
use Rattle.workloads.specs.Placement.{Open}
use Rattle.workloads.specs.Arrays.{numbers_in, problem_in, SoundWorkload, Holding}
use Rattle.loads.proofs.Loads.{same_loads_same_prices}
use Rattle.refilling.specs.RefillTables.{OpenSets}
use Rattle.refilling.specs.RefilledTables.{CanRefill, RefilledTables}
use Rattle.planner.specs.PlacedTables.{PlacedTables}
use Rattle.planning.proofs.SiteArrays.{SiteWorkload}
use Rattle.planning.proofs.Placeable.{jobs_counted, intervals_counted}

-- the sets in which a site stands have the jobs that are open in what is to be placed for it
pub open-sets : {site : Site} {work : Workload} {sets : List ℕ} → ValidSite site → SiteWorkload site work → HoldsOpen site.jobs site.bounds sets
    → OpenSets work sets
open-sets {site} {work} {sets} valid made holds = record { open_are = λ i j inside. (forth i j inside, back i j inside) }
  where
    inside_site : (i : ℕ) → i < work.intervals → i < interval_count site.bounds
    inside_site i inside = omega (arith, intervals_counted valid made)

    forth : (i j : ℕ) → i < work.intervals → is_member (set_in sets i) j ≡ true → (j < work.jobs) × Open (problem_in work) i j
    forth i j inside has =
        let below = holds.only i j (inside_site i inside) has in
        let (from, to) = ((made.ranges j below).exactly i (inside_site i inside)).0 (sym (holds.members i j (inside_site i inside) below) ∙ has) in
        (omega (arith, jobs_counted valid made), record { from = from; to = to })

    back : (i j : ℕ) → i < work.intervals → (j < work.jobs) × Open (problem_in work) i j → is_member (set_in sets i) j ≡ true
    back i j inside (below, is_open_true) =
        let below-site : j < length site.jobs = omega (arith, jobs_counted valid made) in
        holds.members i j (inside_site i inside) below-site ∙ ((made.ranges j below-site).exactly i (inside_site i inside)).1 (is_open_true.from, is_open_true.to)

module _ {work : Workload} (sound : SoundWorkload work) {table loads prices : List ℕ} (tables : PlacedTables work table loads prices) where
  pub can_refill : {sets holders : List ℕ} → OpenSets work sets → length work.cycles ≡ max_jobs → sum work.jobs (numbers_in work.cycles) < 2 ^ 32
      → Holding (problem_in work) (shares_in work.jobs table) holders → CanRefill work sets table loads holders
  can_refill opens counted small holding =
      record {
        sound = sound;
        open-sets = opens;
        cycles_length = counted;
        cycles_small = small;
        serving = record { shut = tables.placed.priced.shut; whole = tables.placed.whole };
        stored = tables.stored;
        holding = holding;
      }

  pub placed_again : {after holders : List ℕ} → RefilledTables work table loads after holders → PlacedTables work after loads prices
  placed_again again =
      record {
        stored = again.stored;
        prices_length = tables.prices_length;
        placed =
            same_loads_same_prices sound.sound tables.placed again.refilled.serving
            (λ i inside. sym (again.stored.loads_are i inside) ∙ tables.stored.loads_are i inside);
      }
