-- `rows::fill_next` meets its contract: the least job takes what it can (proofs/RowSteps.antt). Assumes nothing.
use mathlib.Core.Path.{◌≡◌, ap}
use mathlib.Core.Logic.{◌⊎◌, ⊎_elim}
use Prim.Native.Nat.{◌<◌, ◌≤◌}
use native.Mathlib.Omega.{arith}
use Rattle.model.specs.Limits.{max_jobs, max_intervals}
use Rattle.workloads.specs.Arrays.{numbers_in}
use Rattle.job_sets.specs.declared.JobSet.{JobSet}
use Rattle.job_sets.specs.JobSets.{member_count, without_job}
use Rattle.job_sets.proofs.JobSets.{count_without}
use Rattle.refilling.proofs.DueSets.{due_fewer}
use Rattle.refilling.proofs.RowSteps.{is_member_true, job_below, job_small, can_take_next, next_kept, row_finishes, row_narrows}
use Rattle.refilling.proofs.rows.fill_next.Goals as goal
use Rattle.refilling.proofs.rows.fill_next.Goals.{After-least-job, After-slice_known-2-1, After-struct_known-1}

small : (c : After-least-job) → c.least-job.result < max_jobs
small c = job_small c.requires.row_fill.3 c.requires.rest_value c.least-job.ensures

-- its last interval is one
last-small : (c : After-least-job) → numbers_in c.args.last.now c.least-job.result ≤ max_intervals
last-small c =
    let known = c.requires.row_fill.3 in
    let sound = known.tables.sound in
    omega (arith, sound.sound.inside _ (job_below known c.requires.rest_value c.least-job.ensures), sound.intervals_most)

-- where some of it is left, nothing must cross some bound before it is due
bound-met : {None Met : Type 0} → None ⊎ Met → (None → ⊥) → Met
bound-met taken more = ⊎_elim (λ none. absurd (more none)) (λ met. met) taken

fewer : (c : After-slice_known-2-1) → member_count c.without-others.result < member_count c.args.row.rest
fewer c =
    let row = c.args.row in
    let same : member_count c.without-others.result ≡ member_count (without_job row.rest c.least-job.result) =
    ap (λ (set : JobSet). member_count set) c.without-others.ensures in
    omega (arith, same, count_without row.rest c.least-job.result (is_member_true c.requires.row_fill.3 c.requires.rest_value c.least-job.ensures))

pub without-others-requires : goal.without-others-requires
without-others-requires c = small (goal.at.without-others-requires c).After-least-job

pub take-requires : goal.take-requires
take-requires c =
    can_take_next c.requires.row_fill.3 c.requires.rest_value c.least-job.ensures

pub offset_bounds-left-job : goal.offset_bounds-left-job
offset_bounds-left-job c = omega (arith, small (goal.at.offset_bounds-left-job c).After-least-job)

pub bounds-left-job : goal.bounds-left-job
bounds-left-job c = small (goal.at.bounds-left-job c).After-least-job

pub with-requires : goal.with-requires
with-requires c = small (goal.at.with-requires c).After-least-job

pub returns-then-left-job-eq0 : goal.returns-then-left-job-eq0
returns-then-left-job-eq0 c =
    record {
      row_filled = λ work loads opens before.
          let taken = c.take.ensures in (
            next_kept before c.requires.rest_value c.least-job.ensures taken,
            rw (c.with.ensures, c.without-others.ensures) (row_finishes before c.requires.rest_value c.least-job.ensures taken c.if-left-job-eq0.true),
          );
      rest_bound = fewer (goal.at.returns-then-left-job-eq0 c).After-slice_known-2-1;
    }

pub first_uncrossed-uncrossed-requires : goal.first_uncrossed-uncrossed-requires
first_uncrossed-uncrossed-requires c =
    let (b, late, early, none) = bound-met c.take.ensures.takes.most c.if-left-job-eq0.false in
    (b, late, omega (arith, last-small (goal.at.first_uncrossed-uncrossed-requires c).After-least-job), none)

pub overflow_cast-next : goal.overflow_cast-next
overflow_cast-next c =
    let known = c.requires.row_fill.3 in
    omega (arith, known.uncrossed_are.inside, known.tables.sound.intervals_most)

-- what is found is before the job is due
nearer : (c : After-struct_known-1)
    → let a = c.args in
    (a.interval < c.first_uncrossed-uncrossed.result) × (c.first_uncrossed-uncrossed.result < numbers_in a.last.now c.least-job.result)
    × (numbers_in c.take.new.cross c.first_uncrossed-uncrossed.result ≡ 0)
nearer c =
    let (b, late, early, none) = bound-met c.take.ensures.takes.most c.if-left-job-eq0.false in
    let found = c.first_uncrossed-uncrossed.ensures in
    (found.0, omega (arith, found.2 b late none), found.1)

pub bounds-next-uncrossed : goal.bounds-next-uncrossed
bounds-next-uncrossed c = omega (arith, (nearer (goal.at.bounds-next-uncrossed c).After-struct_known-1).1, last-small (goal.at.bounds-next-uncrossed c).After-least-job)

pub due_by-requires : goal.due_by-requires
due_by-requires c = c.requires.row_fill.3.tables.sound.intervals_most

pub returns : goal.returns
returns c =
    let found = nearer (goal.at.returns c).After-struct_known-1 in record {
      row_filled = λ work loads opens before. (
        next_kept before c.requires.rest_value c.least-job.ensures c.take.ensures,
        rw (c.due_by.ensures, c.without-others.ensures)
            (row_narrows before c.requires.rest_value c.least-job.ensures c.take.ensures opens found.0 found.1 found.2),
      );
      rest_bound = rw c.due_by.ensures
          (omega (
            arith,
            fewer (goal.at.returns c).After-slice_known-2-1,
            due_fewer c.args.«open».now c.args.intervals c.without-others.result c.first_uncrossed-uncrossed.result,
          ));
    }
