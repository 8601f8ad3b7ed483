-- Rounds that repeat, in the user's words.
-- Assumes nothing.
use mathlib.Core.Path.{◌≡◌, sym, ◌∙◌, ap}
use mathlib.Core.Logic.{◌⊎◌, inl, inr}
use mathlib.Core.List.{List, map}
use Prim.Native.Nat.{ℕ, zero, suc, ◌+◌, ◌-◌, ◌*◌, ◌/◌, ◌%◌, ◌<◌, ◌≤◌}
use native.Mathlib.Nat.{eq-zero-or-pos, mod-lt}
use native.Mathlib.Omega.{arith}
use lib.ListN.{length, length-map}
use lib.Seq.{ext_get_or}
use Rattle.model.specs.declared.Job.{Job}
use Rattle.model.specs.Jobs.{no_job, job_of}
use Rattle.model.specs.SiteParameters.{altered_job, AlteredJob, AlteredJobs}
use Rattle.model.specs.Steps.{shares_of}
use Rattle.model.specs.PriceBytes.{prices_of}
use Rattle.model.proofs.Entries.{length_list_of, get_d_list_of}
use Rattle.model.proofs.Joined.{get_d_map}
use Rattle.model.proofs.SiteParameters.{jobs_altered, altered_map, altered_by_nothing}
use Rattle.model.proofs.Sites.{sound_site}
use Rattle.tasks.specs.LaidOut.{lay_out}
use Rattle.tasks.proofs.Rounds.{answered_round_is}
use Rattle.repeats.specs.Repeats.{later_by, repeat_jobs, RepeatsApart}
use Rattle.repeats.specs.RoundsThatRepeat.{ReleasedAsLaidOut, RoundsThatRepeat}
use Rattle.repeats.proofs.Ends.{latest_none, latest_met}
use Rattle.repeats.proofs.Repeats.{rounds_repeat}
use Rattle.repeats.proofs.LaidOutRepeats.{laid_out_repeats}

-- jobs whose windows end within H ticks
inside_apart : (jobs : List Job) (H : ℕ) → ((j : ℕ) → j < length jobs → (job_of jobs j).deadline ≤ H) → RepeatsApart H jobs
inside_apart jobs H inside = go (eq-zero-or-pos (length jobs))
  where
    go : (length jobs ≡ 0) ⊎ (0 < length jobs) → RepeatsApart H jobs
    go (inl none) = omega (arith, latest_none jobs none)
    go (inr some) = let met = latest_met jobs some in omega (arith, met.2, inside met.0 met.1)

-- no more ticks are kept free than a deadline has
free_enough : (free margin : ℕ) (jobs altered : List Job) → AlteredJobs free margin jobs altered → (j : ℕ) → j < length jobs → free ≤ (job_of jobs j).deadline
free_enough free margin jobs altered law j below = omega (arith, (law.each j below).deadline_earlier)

-- a job some ticks later, altered, is the altered job as many ticks later
later_altered : (free margin ticks : ℕ) (job : Job) → free ≤ job.deadline → altered_job free margin (later_by ticks job) ≡ later_by ticks (altered_job free margin job)
unfolding altered_job
later_altered free margin ticks job enough =
    let e : ticks + job.deadline - free ≡ ticks + (job.deadline - free) = omega (arith, enough) in
    rw e

-- repeats of altered jobs are altered repeats
altered_repeats : (free margin H r : ℕ) (jobs : List Job) → ((j : ℕ) → j < length jobs → free ≤ (job_of jobs j).deadline)
    → map (altered_job free margin) (repeat_jobs H r jobs) ≡ repeat_jobs H r (map (altered_job free margin) jobs)
unfolding repeat_jobs
altered_repeats free margin H r jobs enough =
    let n : ℕ = length jobs in
    let many : length (map (altered_job free margin) jobs) ≡ n = length-map jobs (altered_job free margin) in
    let left : length (map (altered_job free margin) (repeat_jobs H r jobs)) ≡ r * n =
    length-map (repeat_jobs H r jobs) (altered_job free margin) ∙ length_list_of (r * n) _ in
    ext_get_or no_job _ _ (left ∙ sym (length_list_of (r * length (map (altered_job free margin) jobs)) _ ∙ ap (λ (m : ℕ). r * m) many))
    (λ t below.
    let inside : t < r * n = rw left at below in
    let positive : 0 < n = some_job r n t inside in
    let own : t % n < n = mod-lt t positive in
    get_d_map (altered_job free margin) (repeat_jobs H r jobs) t no_job no_job (rw (length_list_of (r * n) (λ t. later_by (t / n * H) (job_of jobs (t % n)))) inside)
    ∙ ap (altered_job free margin) (get_d_list_of (r * n) _ t no_job inside)
    ∙ later_altered free margin (t / n * H) (job_of jobs (t % n)) (enough (t % n) own)
    ∙ ap (later_by (t / n * H)) (sym (get_d_map (altered_job free margin) jobs (t % n) no_job no_job own))
    ∙ sym (get_d_list_of (r * length (map (altered_job free margin) jobs)) _ t no_job (rw many inside) ∙ rw many))
  where
    some_job : (r n t : ℕ) → t < r * n → 0 < n
    some_job r zero t below = absurd (omega arith)
    some_job r (suc n) t below = omega arith

pub released_as_laid_out : ReleasedAsLaidOut
released_as_laid_out tasks ticks = altered_by_nothing (lay_out tasks ticks)

pub rounds_that_repeat : RoundsThatRepeat
rounds_that_repeat task_bytes room round e free margin site valid altered plan prices accepted r =
    let is = answered_round_is task_bytes room round e in
    let H = round.multiple in
    let law = (jobs_altered free margin round.jobs site.jobs).0 altered in
    let each : (j : ℕ) → j < length site.jobs → AlteredJob free margin (job_of round.jobs j) (job_of site.jobs j) =
    λ j below. law.each j (rw law.as_many at below) in
    let apart : RepeatsApart H site.jobs =
    inside_apart site.jobs H (λ j below. omega (arith, (each j below).deadline_earlier, is.jobs-inside j)) in
    let as-altered : site.jobs ≡ map (altered_job free margin) (lay_out is.tasks H) =
    sym (altered_map free margin round.jobs law) ∙ ap (map (altered_job free margin)) is.jobs_are in
    let enough : (j : ℕ) → j < length (lay_out is.tasks H) → free ≤ (job_of (lay_out is.tasks H) j).deadline =
    rw is.jobs_are at (free_enough free margin round.jobs site.jobs law) in
    record {
      tasks = is.tasks;
      read = is.read;
      multiple = is.multiple;
      repeated_jobs =
          ap (repeat_jobs H r) as-altered
          ∙ sym (altered_repeats free margin H r (lay_out is.tasks H) enough)
          ∙ ap (map (altered_job free margin)) (sym (laid_out_repeats is.tasks is.valid_tasks H is.multiple.common r));
      apart = apart;
      repeated_plan = rounds_repeat site (sound_site valid) valid.bounds (shares_of plan) accepted.gives
          (prices_of prices) accepted.fitting H apart r;
    }
