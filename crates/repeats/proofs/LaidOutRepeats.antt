-- Tasks laid out over several multiples of their periods.
-- Assumes nothing.
use mathlib.Core.Path.{◌≡◌, refl, ◌∙◌, ap}
use mathlib.Core.Bool.{Bool, true, false, cond, ◌&&◌}
use mathlib.Core.Logic.{◌⊎◌, inl, inr}
use mathlib.Core.List.{List, [], ◌∷◌, ◌++◌, map}
use Prim.Native.Nat.{ℕ, zero, suc, ◌+◌, ◌-◌, ◌*◌, ◌/◌, ◌%◌, ◌<◌, ◌≤◌, ◌∣◌}
use native.Mathlib.Nat.{mul-div_cancel', mul-add-mod_self_left, mod-eq_of_lt}
use native.Mathlib.Omega.{arith}
use lib.ListN.{length}
use lib.Dec.{leb, eqb}
use borrow.Author.Tests.{le-leb, lt-leb, ne_eqb}
use Rattle.model.specs.declared.Job.{Job}
use Rattle.model.specs.Entries.{joined}
use Rattle.model.specs.Jobs.{no_job, job_of}
use Rattle.model.proofs.Numbers.{lt_or_le}
use Rattle.model.proofs.Joined.{joined_cong, map_joined}
use Rattle.tasks.specs.declared.Task.{Task}
use Rattle.tasks.specs.Tasks.{task_of, ValidTasks}
use Rattle.tasks.specs.Multiples.{CommonMultiple}
use Rattle.tasks.specs.LaidOut.{releases_at, job_released, released_by, jobs_at, lay_out}
use Rattle.repeats.specs.Repeats.{later_by, repeat_jobs}
use Rattle.repeats.specs.LaidOutRepeats.{LaidOutRepeats}
use Rattle.repeats.proofs.Rows.{row_at, column_at}
use Rattle.repeats.proofs.Lists.{list_of_append, list_of_map, joined_append}
use Rattle.repeats.proofs.Repeats.{nothing_repeats}

-- repeat r follows those before it
repeat_jobs_next : (H r : ℕ) (jobs : List Job) → repeat_jobs H (suc r) jobs ≡ repeat_jobs H r jobs ++ map (later_by (r * H)) jobs
unfolding repeat_jobs
repeat_jobs_next H r jobs =
    let n : ℕ = length jobs in
    let f : ℕ → Job = λ t. later_by (t / n * H) (job_of jobs (t % n)) in
    let e : suc r * n ≡ r * n + n = omega arith in
    rw (
      e,
      list_of_append (r * n) n f,
      list_of_map (later_by (r * H)) jobs no_job (λ j. f (r * n + j)) (λ j below. rw (row_at n r j below, column_at n r j below)),
    )

module _ (task : Task) (some : 1 ≤ task.deadline) (within : task.phase + task.deadline ≤ task.period) where
  -- some periods later a task releases as before
  same_release : (c u : ℕ) → releases_at task (task.period * c + u) ≡ releases_at task u
  unfolding releases_at
  same_release zero u = let e : task.period * 0 + u ≡ u = omega arith in rw e
  same_release (suc c) u = go (lt_or_le u task.phase)
    where
      go : (u < task.phase) ⊎ (task.phase ≤ u)
          → (leb task.phase (task.period * suc c + u) && eqb ((task.period * suc c + u - task.phase) % task.period) 0)
          ≡ (leb task.phase u && eqb ((u - task.phase) % task.period) 0)
      go (inl early) =
          let e : task.period * suc c + u - task.phase ≡ task.period * c + (task.period + u - task.phase) = omega arith in
          let low : task.phase ≤ task.period * suc c + u = omega arith in
          rw (
            lt-leb task.phase u early,
            le-leb task.phase (task.period * suc c + u) low,
            e,
            mul-add-mod_self_left task.period c (task.period + u - task.phase),
            mod-eq_of_lt {n = task.period + u - task.phase} {m = task.period} (omega arith),
            ne_eqb (task.period + u - task.phase) 0 (λ none. omega arith),
          )
      go (inr late) =
          let e : task.period * suc c + u - task.phase ≡ task.period * suc c + (u - task.phase) = omega arith in
          let low : task.phase ≤ task.period * suc c + u = omega arith in
          rw (
            le-leb task.phase u late,
            le-leb task.phase (task.period * suc c + u) low,
            e,
            mul-add-mod_self_left task.period (suc c) (u - task.phase),
          )

  module _ (H : ℕ) (divides : task.period ∣ H) where
    same_jobs : (r u : ℕ) → released_by task (r * H + u) ≡ map (later_by (r * H)) (released_by task u)
    unfolding released_by
    same_jobs r u =
        let whole : task.period * (H / task.period) ≡ H = mul-div_cancel' task.period divides in
        let e : r * H + u ≡ task.period * (r * (H / task.period)) + u = omega (arith, ap (λ (x : ℕ). r * x) whole) in
        let same : releases_at task (r * H + u) ≡ releases_at task u =
        ap (λ (x : ℕ). releases_at task x) e ∙ same_release (r * (H / task.period)) u in
        let end : r * H + u + task.deadline ≡ r * H + (u + task.deadline) = omega arith in
        rw (same, end) (go (releases_at task u))
      where
        go : (t : Bool) → cond t (later_by (r * H) (job_released task u) ∷ []) [] ≡ map (later_by (r * H)) (cond t (job_released task u ∷ []) [])
        go true = refl
        go false = refl

module _ (tasks : List Task) (valid : ValidTasks tasks) (H : ℕ) (common : CommonMultiple tasks H) where
  tick_repeats : (r u : ℕ) → jobs_at tasks (r * H + u) ≡ map (later_by (r * H)) (jobs_at tasks u)
  unfolding jobs_at
  tick_repeats r u =
      rw (map_joined (later_by (r * H)) (length tasks) (λ i. released_by (task_of tasks i) u))
      (joined_cong (length tasks) _ _ (λ i there. same_jobs (task_of tasks i) (valid.some_deadline i there) (valid.within_period i there) H (common i there) r u))

  round_repeats : (r : ℕ) → lay_out tasks (r * H + H) ≡ lay_out tasks (r * H) ++ map (later_by (r * H)) (lay_out tasks H)
  unfolding lay_out
  round_repeats r =
      rw (
        joined_append (r * H) H (jobs_at tasks),
        joined_cong H (λ u. jobs_at tasks (r * H + u)) (λ u. map (later_by (r * H)) (jobs_at tasks u)) (λ u below. tick_repeats r u),
        map_joined (later_by (r * H)) H (jobs_at tasks),
      )

pub laid_out_repeats : LaidOutRepeats
unfolding lay_out joined
laid_out_repeats tasks valid H common zero = let e : 0 * H ≡ 0 = omega arith in rw (e, nothing_repeats H 0 (joined H (jobs_at tasks)) (omega arith))
laid_out_repeats tasks valid H common (suc r) =
    let e : suc r * H ≡ r * H + H = omega arith in
    rw (e, round_repeats tasks valid H common r, laid_out_repeats tasks valid H common r, repeat_jobs_next H r (lay_out tasks H))
