-- A set of jobs fits exactly when some schedule meets all deadlines. That no window is overfull is not only needed for such a schedule, it is
-- enough. Proved in proofs/Feasible.antt.
use Rattle.std.specs.Prelude.{ℕ, ◌<◌, ◌≤◌, ◌≡◌, ◌↔◌, List, length}
use Rattle.std.proofs.Math.Option.{none}
use Rattle.model.specs.declared.Level.{Level}
use Rattle.model.specs.declared.Job.{Job}
use Rattle.model.specs.Jobs.{job_of}
use Rattle.model.specs.Points.{top_frequency}
use Rattle.model.specs.Processors.{top_of}
use Rattle.model.specs.Sites.{Site, ValidSite}
use Rattle.model.specs.Windows.{earliest_overfull}
use Rattle.model.specs.Schedules.{Schedule, Serves}
use Rattle.model.specs.Demands.{CanBeServed}

-- Where no window from a release to a later deadline is overfull at the top frequency, some schedule meets all deadlines. It always runs, at
-- the top frequency, the job of earliest deadline among those released and not yet done. Nothing bounds the number of jobs or their cycles.
abbrev pub FittingIsServed : Type 0
FittingIsServed =
    (levels : List Level) → 1 ≤ length levels → 1 ≤ top_frequency levels
    → (jobs : List Job) → ((j : ℕ) → j < length jobs → (job_of jobs j).release < (job_of jobs j).deadline)
    → earliest_overfull (top_frequency levels) jobs ≡ none
    → (schedule : Schedule levels jobs) × Serves schedule

-- The window test of a site is exact: it finds no overfull window exactly when some schedule over the site's levels meets all deadlines.
abbrev pub FitsExactlyWhenServed : Type 0
FitsExactlyWhenServed =
    (site : Site) → ValidSite site
    → (earliest_overfull (top_of site.processor) site.jobs ≡ none) ↔ CanBeServed site
