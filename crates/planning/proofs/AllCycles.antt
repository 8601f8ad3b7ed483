-- Without an overfull window all jobs together have few cycles, of a site that stands in arrays.
-- Assumes nothing.
use mathlib.Core.Path.{◌≡◌, ◌∙◌, ap}
use mathlib.Core.List.{List}
use mathlib.Core.Option.{none}
use Prim.Native.Nat.{ℕ, ◌^◌, ◌<◌, ◌≤◌}
use native.Mathlib.Omega.{arith}
use lib.ListN.{length}
use Rattle.model.specs.declared.Job.{Job}
use Rattle.model.specs.Limits.{max_frequency}
use Rattle.model.specs.Sum.{sum}
use Rattle.model.specs.Jobs.{job_of}
use Rattle.model.specs.Processors.{top_of}
use Rattle.model.specs.Sites.{Site, ValidSite}
use Rattle.model.specs.Windows.{earliest_overfull}
use Rattle.windows.proofs.FittingSets.{all_cycles_few as jobs-few}
use Rattle.workloads.specs.Workloads.{Workload}
use Rattle.workloads.specs.Placement.{Problem}
use Rattle.workloads.specs.Arrays.{numbers_in}
use Rattle.planning.proofs.SiteArrays.{SiteWorkload}
use Rattle.planning.proofs.Placeable.{top_point}

module _ {site : Site} {work : Workload} (valid : ValidSite site) (made : SiteWorkload site work)
    (fits : earliest_overfull (top_of site.processor) site.jobs ≡ none) where
  abbrev jobs : List Job
  jobs = site.jobs

  abbrev top : ℕ
  top = top_of site.processor

  top_low : top ≤ max_frequency
  top_low =
      let at_top : numbers_in work.frequency work.bands ≡ top =
      ap (λ (p : Problem). p.frequency p.bands) made.problem ∙ top_point valid made in
      rw (← at_top) (made.sound.frequency_most work.bands (omega arith))

  pub all_cycles_few : sum work.jobs (numbers_in work.cycles) < 2 ^ 32
  all_cycles_few =
      let same : sum work.jobs (numbers_in work.cycles) ≡ sum (length jobs) (λ j. (job_of jobs j).cycles) =
      ap (λ (p : Problem). sum p.jobs p.cycles) made.problem in
      rw same (jobs-few top jobs valid.jobs top_low fits)
