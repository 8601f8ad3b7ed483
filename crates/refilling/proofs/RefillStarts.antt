-- Laws of the start and the end of filling loads anew.
-- Assumes nothing.
use mathlib.Core.Path.{◌≡◌, ◌∙◌, sym}
use mathlib.Core.List.{List}
use Prim.Native.Nat.{ℕ, ◌+◌, ◌*◌, ◌<◌, ◌≤◌}
use native.Mathlib.Omega.{arith}
use lib.ListN.{length, replicate, length-replicate, get_or-replicate}
use Rattle.model.specs.Limits.{max_intervals, max_bounds}
use Rattle.model.specs.Sum.{sum}
use Rattle.model.specs.Plans.{shares_in}
use Rattle.model.proofs.Numbers.{true≢false}
use Rattle.job_sets.specs.JobSets.{no_jobs}
use Rattle.job_sets.proofs.JobSets.{none_has}
use Rattle.workloads.specs.Workloads.{Workload}
use Rattle.workloads.specs.Arrays.{numbers_in, problem_in, Holding, KeptPast}
use Rattle.workloads.proofs.SharesTable.{kept_trans}
use Rattle.paths.proofs.HeldJobs.{holding_start}
use Rattle.loads.specs.Loads.{Fillable}
use Rattle.loads.specs.Crossing.{due_by}
use Rattle.loads.specs.Refilled.{Refilled}
use Rattle.loads.proofs.Loads.{serving_fills, fillable_same}
use Rattle.loads.proofs.Crossing.{cross_starts, due_all}
use Rattle.loads.proofs.Refilled.{refill_starts}
use Rattle.due_cycles.specs.Due.{due_at}
use Rattle.refilling.specs.Crosses.{due_to, CanCross}
use Rattle.refilling.specs.Clearing.{HoldsShares, Cleared}
use Rattle.refilling.specs.RefillTables.{BetweenRows}
use Rattle.refilling.specs.RefilledTables.{CanRefill, RefilledTables}

module _ {work : Workload} {sets table loads holders : List ℕ} (can : CanRefill work sets table loads holders) where
  pub can_clear : HoldsShares work.jobs work.intervals table holders
  can_clear =
      record {
        jobs_most = can.sound.jobs_most;
        intervals_most = can.sound.intervals_most;
        room = can.stored.table-length;
        held = can.holding.held;
        held_past = can.holding.held_past;
      }

  fillable : Fillable (problem_in work) (numbers_in loads)
  fillable = fillable_same (serving_fills can.serving) can.stored.loads_are

  -- no job ends after the last interval
  pub last_most : (j : ℕ) → j < work.jobs → numbers_in work.last j ≤ max_intervals
  last_most j below = omega (arith, can.sound.sound.inside j below, can.sound.intervals_most)

  -- the loads are no less than what is due by a bound
  pub can_cross : (cross : List ℕ) → length cross ≡ max_bounds
      → ((b : ℕ) → numbers_in cross b ≡ due_at work.jobs (numbers_in work.last) (numbers_in work.cycles) b)
      → CanCross work.jobs work.intervals (numbers_in work.last) (numbers_in work.cycles) loads cross
  unfolding due_by due_to
  can_cross cross size due =
      record {
        intervals_most = can.sound.intervals_most;
        size = size;
        due = due;
        window = λ j below. omega (arith, can.sound.sound.window j below);
        holds = cross_starts fillable;
        small = omega (arith, fillable.total, can.cycles_small);
      }

  -- before the first interval
  pub can_fill : {table-after holders-after cross next : List ℕ} → Cleared work.jobs work.intervals table table-after holders-after
      → length cross ≡ max_bounds
      → ((b : ℕ) → b ≤ work.intervals → numbers_in cross b + due_to work.jobs (numbers_in work.last) (numbers_in work.cycles) b ≡ sum b (numbers_in loads))
      → next ≡ replicate max_bounds work.intervals
      → BetweenRows work (numbers_in loads) table-after holders-after work.cycles cross next 0 work.intervals no_jobs
  unfolding due_by due_to
  can_fill {table-after} {cross = cross} {next} cleared cross_length crossed is-next =
      record {
        tables =
            record {
              sound = can.sound;
              fillable = fillable;
              room = omega (arith, can.stored.table-length, cleared.kept.same_length);
              holding = rw cleared.holders_are (holding_start cleared.empty);
              left_length = can.cycles_length;
              cross_length = cross_length;
              refilling =
                  refill_starts can.sound.sound fillable (numbers_in cross) crossed (shares_in work.jobs table-after) cleared.empty;
            };
        uncrossed_are =
            record {
              late = omega arith;
              inside = omega arith;
              none = last_none;
              next_length = rw is-next (length-replicate max_bounds work.intervals);
              next_late = λ b h. rw (is_last b h) h;
              next_inside = λ b h. rw (is_last b h) (omega arith);
              next_none = λ b h. rw (is_last b h) last_none;
            };
        are_finished = λ q below has. absurd (true≢false (sym has ∙ none_has q));
      }
    where
      is_last : (b : ℕ) → b < work.intervals → numbers_in next b ≡ work.intervals
      is_last b h = rw is-next (get_or-replicate max_bounds b work.intervals 0 (omega (arith, can.sound.intervals_most)))

      last_none : numbers_in cross work.intervals ≡ 0
      last_none =
          omega (
            arith,
            crossed work.intervals (omega arith),
            due_all (problem_in work) can.sound.sound (numbers_in work.cycles),
            fillable.total,
          )

  -- the end
  pub refilled_tables : {cleared after holders-after : List ℕ} → KeptPast (work.intervals * work.jobs) table cleared
      → KeptPast (work.intervals * work.jobs) cleared after → Holding (problem_in work) (shares_in work.jobs after) holders-after
      → Refilled (problem_in work) (numbers_in loads) (shares_in work.jobs after) → RefilledTables work table loads after holders-after
  refilled_tables first second holding refilled =
      let kept = kept_trans first second in
      record {
        kept = kept;
        stored =
            record {
              table-length = omega (arith, can.stored.table-length, kept.same_length);
              loads_length = can.stored.loads_length;
              loads_are = λ i inside. sym (refilled.loads_are i inside);
              loads_past = can.stored.loads_past;
            };
        holding = holding;
        refilled = refilled;
      }
