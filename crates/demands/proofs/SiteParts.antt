-- What a site that was read is made of: levels, jobs and marks, each read by itself, and levels and jobs altered.
-- Assumes nothing.
use mathlib.Core.Path.{◌≡◌, sym, ◌∙◌, ap}
use mathlib.Core.List.{List}
use Prim.Native.Nat.{ℕ}
use Rattle.model.specs.declared.Job.{Job}
use Rattle.model.specs.declared.Parameters.{Parameters}
use Rattle.model.specs.Outcome.{answer}
use Rattle.model.specs.LevelTables.{read_levels}
use Rattle.model.specs.Jobs.{read_jobs}
use Rattle.model.specs.Marks.{read_marks, bounds_with}
use Rattle.model.specs.SiteParameters.{alter_levels, alter_jobs}
use Rattle.model.specs.Sites.{Given, read_given, Tables, alter_tables, Site, site_of, read_site}
use Rattle.model.proofs.Outcome.{and_then_answered, answer_injective}

-- levels and jobs as they are given and as they are altered, and the marks
pub site_tables : (level_bytes job_bytes mark_bytes : List ℕ) (parameters : Parameters) (site : Site) → read_site level_bytes job_bytes mark_bytes parameters ≡ answer site
    → (given : Given) × (tables : Tables) × (marks : List ℕ) × (read_given level_bytes job_bytes ≡ answer given) × (read_marks mark_bytes ≡ answer marks)
    × (alter_tables parameters given ≡ answer tables) × (site ≡ site_of tables marks)
unfolding read_site
site_tables level_bytes job_bytes mark_bytes parameters site read =
    let (given, given_read, rest) = and_then_answered (read_given level_bytes job_bytes) _ read in
    let (marks, marks_read, rest) = and_then_answered (read_marks mark_bytes) _ rest in
    let (tables, altered, made) = and_then_answered (alter_tables parameters given) _ rest in
    (given, tables, marks, given_read, marks_read, altered, sym (answer_injective made))

pub given_jobs : (level_bytes job_bytes : List ℕ) (given : Given) → read_given level_bytes job_bytes ≡ answer given → read_jobs job_bytes ≡ answer given.jobs
unfolding read_given
given_jobs level_bytes job_bytes given read =
    let (entries, levels_read, rest) = and_then_answered (read_levels level_bytes) _ read in
    let (jobs, jobs_read, made) = and_then_answered (read_jobs job_bytes) _ rest in
    jobs_read ∙ ap (λ (g : Given). answer g.jobs) (answer_injective made)

pub altered-jobs : (parameters : Parameters) (given : Given) (tables : Tables) → alter_tables parameters given ≡ answer tables
    → alter_jobs parameters.free parameters.margin given.jobs ≡ answer tables.jobs
unfolding alter_tables
altered-jobs parameters given tables altered =
    let (levels, levels_altered, rest) = and_then_answered (alter_levels parameters.highest given.levels) _ altered in
    let (jobs, jobs_altered, made) = and_then_answered (alter_jobs parameters.free parameters.margin given.jobs) _ rest in
    jobs_altered ∙ ap (λ (t : Tables). answer t.jobs) (answer_injective made)

-- the jobs as they are given and as they are altered, the marks, and the bounds that they make
pub site_parts : (level_bytes job_bytes mark_bytes : List ℕ) (parameters : Parameters) (site : Site) → read_site level_bytes job_bytes mark_bytes parameters ≡ answer site
    → (given : List Job) × (marks : List ℕ) × (read_jobs job_bytes ≡ answer given) × (read_marks mark_bytes ≡ answer marks)
    × (alter_jobs parameters.free parameters.margin given ≡ answer site.jobs) × (site.bounds ≡ bounds_with marks site.jobs)
site_parts level_bytes job_bytes mark_bytes parameters site read =
    let (given, tables, marks, given_read, marks_read, altered, is) = site_tables level_bytes job_bytes mark_bytes parameters site read in (
      given.jobs,
      marks,
      given_jobs level_bytes job_bytes given given_read,
      marks_read,
      altered-jobs parameters given tables altered ∙ ap (λ (s : Site). answer s.jobs) (sym is),
      ap (λ (s : Site). s.bounds) is ∙ ap (λ (s : Site). bounds_with marks s.jobs) (sym is),
    )
