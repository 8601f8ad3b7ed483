-- What is to be placed for a site: its jobs in the intervals between bounds, at the working points of its levels.
use Rattle.std.specs.Prelude.{ℕ, List, length}
use Rattle.model.specs.declared.Job.{Job}
use Rattle.model.specs.Jobs.{job_of}
use Rattle.model.specs.Points.{Point}
use Rattle.model.specs.Bands.{band_count, frequency_of}
use Rattle.model.specs.Intervals.{interval_count, length_of}
use Rattle.workloads.specs.Placement.{Problem}

-- Job j is open in the intervals from first j up to, not including, last j.
abbrev pub problem_of : List Point → List Job → (bounds : List ℕ) → (first last : ℕ → ℕ) → Problem
problem_of ws jobs bounds first last =
    record {
      jobs = length jobs;
      intervals = interval_count bounds;
      bands = band_count ws;
      first = first;
      last = last;
      cycles = λ j. (job_of jobs j).cycles;
      size = length_of bounds;
      frequency = frequency_of ws;
    }
