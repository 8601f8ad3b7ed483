-- Tables that were read stand in the arrays that the operation makes of them.
-- Assumes nothing.
use mathlib.Core.Path.{◌≡◌, sym, ◌∙◌, ap}
use mathlib.Core.List.{List}
use Prim.Native.Nat.{ℕ, ◌-◌, ◌<◌, ◌≤◌}
use native.Mathlib.Omega.{arith}
use lib.ListN.{length, get_or}
use Rattle.model.specs.declared.Job.{Job}
use Rattle.model.specs.Limits.{max_jobs, max_bounds, max_intervals}
use Rattle.model.specs.Jobs.{job_of}
use Rattle.model.specs.Intervals.{bounds_of, Bounds, OpenRange}
use Rattle.model.specs.Sites.{Tables}
use Rattle.model.proofs.BoundsOf.{bounds-of, length_bounds_of}
use Rattle.reading.specs.Column.{column_of}
use Rattle.job_tables.specs.Tables.{jobs_in}
use Rattle.job_tables.proofs.Read.{length_jobs_in, job-in}
use Rattle.intervals.specs.Times.{HoldsTimes, RisingTimes, number_of}
use Rattle.intervals.specs.OpenSets.{open_sets}
use Rattle.intervals.proofs.OpenRanges as ranges
use Rattle.site.specs.declared.TablePair.{TablePair}
use Rattle.site.specs.SiteTables.{HoldsTables}
use Rattle.site.proofs.HeldSites.{pair_top}
use Rattle.nearest.specs.TablesInArrays.{ValidPair, InArrays}

module _ {tables : Tables} {pair : TablePair} {releases deadlines cycles : List ℕ} (valid : ValidPair tables)
    (holds : HoldsTables tables pair releases deadlines cycles) {times : List ℕ} {bounds : ℕ}
    (found : HoldsTimes times bounds (bounds_of (jobs_in pair.jobs releases deadlines cycles))) where
  abbrev jobs : List Job
  jobs = tables.jobs

  held : HoldsTimes times bounds (bounds_of jobs)
  held = rw holds.jobs_are at found

  cuts : Bounds jobs (bounds_of jobs)
  cuts = bounds-of jobs valid.jobs.release_before_deadline

  few : length (bounds_of jobs) ≤ max_bounds
  few = omega (arith, length_bounds_of jobs, valid.jobs.few)

  pub times_rise : RisingTimes bounds times
  times_rise = (ranges.bounds_small cuts valid.jobs few held).rising

  counted : pair.jobs ≡ length jobs
  counted = sym (length_jobs_in pair.jobs releases deadlines cycles) ∙ ap length holds.jobs_are

  own_cycles : (j : ℕ) → j < length jobs → get_or cycles j 0 ≡ (job_of jobs j).cycles
  own_cycles j below =
      sym (ap (λ (job : Job). job.cycles) (rw holds.jobs_are at (job-in pair.jobs releases deadlines cycles j (omega (arith, counted)))))

  -- the numbers of the jobs' bounds were found
  module _ {first last : List ℕ} (first-are : first ≡ column_of max_jobs pair.jobs (λ j. number_of bounds times (get_or releases j 0)))
      (last-are : last ≡ column_of max_jobs pair.jobs (λ j. number_of bounds times (get_or deadlines j 0))) where
    pub numbers_few : (j : ℕ) → j < pair.jobs → (get_or first j 0 ≤ max_intervals) × (get_or last j 0 ≤ max_intervals)
    numbers_few = ranges.numbers_few cuts valid.jobs few held pair.jobs releases deadlines cycles holds.jobs_are first-are last-are

    pub in_arrays : (sets : List ℕ) (intervals : ℕ) → sets ≡ open_sets pair.jobs first last → intervals ≡ bounds - 1
        → InArrays tables (bounds_of jobs) pair.jobs pair.top releases deadlines cycles times intervals last sets
    in_arrays sets intervals open_are is =
        record {
          top_is = holds.top_is;
          top_small = pair_top holds valid.processor;
          jobs_are = holds.jobs_are;
          rooms = record {
            tests = record {
              valid = valid.jobs;
              bounds-of = cuts;
              few = few;
              counted = is ∙ ap (λ (n : ℕ). n - 1) held.counted;
              times_are = ranges.time_at cuts valid.jobs few held;
              cycles_are = own_cycles;
              open_are = rw open_are (ranges.open_in_arrays cuts valid.jobs few held pair.jobs releases deadlines cycles holds.jobs_are first-are last-are);
            };
            counted = counted;
            ends_few = λ j below. omega (arith, (ends j below).within, is, held.counted);
            ends_are = λ j below. (ends j below).ends;
          };
        }
      where
        ends : (j : ℕ) → j < length jobs → OpenRange jobs (bounds_of jobs) j (get_or first j 0) (get_or last j 0)
        ends = ranges.range_at cuts valid.jobs few held pair.jobs releases deadlines cycles holds.jobs_are first-are last-are
