-- Laws of filling one interval: its start, one job, and its end.
-- Assumes nothing.
use mathlib.Core.Path.{◌≡◌, refl, sym, ◌∙◌}
use mathlib.Core.Bool.{Bool, true, false, not}
use mathlib.Core.Logic.{◌⊎◌, inl, inr}
use mathlib.Core.List.{List}
use Prim.Native.Nat.{ℕ, suc, ◌*◌, ◌<◌, ◌≤◌}
use native.Mathlib.Decide.{ℕ_discrete}
use native.Mathlib.Omega.{arith}
use lib.ListN.{set}
use Rattle.model.specs.Limits.{max_jobs}
use Rattle.model.proofs.Numbers.{lt_or_le, true≢false, both_true}
use Rattle.job_sets.specs.declared.JobSet.{JobSet}
use Rattle.job_sets.specs.JobSets.{is_member, least_member, is_empty, in_first_only, with_job, without_job}
use Rattle.job_sets.specs.IntervalSets.{set_in}
use Rattle.job_sets.proofs.JobSets.{less_has, least_has, empty_has, with_other, without_other, without_here}
use Rattle.workloads.specs.Workloads.{Workload}
use Rattle.workloads.specs.Placement.{Open}
use Rattle.workloads.specs.Arrays.{numbers_in, problem_in, KeptPast}
use Rattle.loads.proofs.Crossing.{left_falls, cross_falls}
use Rattle.refilling.specs.declared.rows.Row.{Row}
use Rattle.refilling.specs.Cells.{CanTake, CellTaken}
use Rattle.refilling.specs.RefillTables.{OpenSets, RefillTables, Uncrossed, BetweenRows, InRow}
use Rattle.refilling.proofs.RefillTables.{can_take, cell_taken, cell_kept, cells_passed, row_ended}
use Rattle.refilling.proofs.Uncrossed.{uncrossed_stay, uncrossed_before}
use Rattle.refilling.proofs.DueSets.{due_set, due_within, due_by_bound, due-after, least_before}

-- the start: the open jobs that are not finished and are due by the bound
pub row_starts : {work : Workload} {loads : ℕ → ℕ} {table holders left cross next sets : List ℕ} {i bound ahead : ℕ} {finished : JobSet} → i < work.intervals
    → OpenSets work sets → BetweenRows work loads table holders left cross next i bound finished → Uncrossed work.intervals (suc i) ahead cross next
    → InRow work loads table holders left cross next i
    (record { uncrossed = ahead; finished = finished; rest = due_set sets work.intervals (in_first_only (set_in sets i) finished) ahead })
row_starts {work} {left = left} {sets = sets} {i} {ahead = ahead} {finished} inside opens between known =
    record {
      inside = inside;
      count = 0;
      count_most = omega arith;
      tables = between.tables;
      uncrossed_are = known;
      are_finished = between.are_finished;
      rest_are = rest_are;
      others = others;
    }
  where
    set : JobSet
    set = in_first_only (set_in sets i) finished

    rest_are : (q : ℕ) → is_member (due_set sets work.intervals set ahead) q ≡ true
        → (0 ≤ q) × (q < work.jobs) × Open (problem_in work) i q × (numbers_in work.last q ≤ ahead)
    rest_are q has =
        let both = both_true (is_member (set_in sets i) q) (not (is_member finished q)) (sym (less_has (set_in sets i) finished q) ∙ due_within sets work.intervals set ahead q has) in
        let (below, is_open_true) = (opens.open_are i q inside).0 both.0 in
        (omega arith, below, is_open_true, due_by_bound between.tables.sound.sound opens known.late set below is_open_true has)

    finished_or : (q : ℕ) → q < work.jobs → Open (problem_in work) i q → is_member set q ≡ false → (t : Bool) → is_member finished q ≡ t → is_member finished q ≡ true
    finished_or q below is_open_true hasn't true e = e
    finished_or q below is_open_true hasn't false e =
        let here : is_member (set_in sets i) q ≡ true = (opens.open_are i q inside).1 (below, is_open_true) in
        absurd (true≢false (sym (less_has (set_in sets i) finished q ∙ rw (here, e)) ∙ hasn't))

    others : (q : ℕ) → 0 ≤ q → q < work.jobs → Open (problem_in work) i q → is_member (due_set sets work.intervals set ahead) q ≡ false
        → (numbers_in left q ≡ 0) ⊎ (ahead < numbers_in work.last q)
    others q from below is_open_true hasn't = go (due-after between.tables.sound.sound opens known.late set below is_open_true hasn't)
      where
        go : (is_member set q ≡ false) ⊎ (ahead < numbers_in work.last q) → (numbers_in left q ≡ 0) ⊎ (ahead < numbers_in work.last q)
        go (inr past) = inr past
        go (inl none) = inl (between.are_finished q below (finished_or q below is_open_true none (is_member finished q) refl))

-- one job: the least of the rest
module _ {work : Workload} {loads : ℕ → ℕ} {table holders left cross next : List ℕ} {i : ℕ} {row : Row}
    (before : InRow work loads table holders left cross next i row) (some : is_empty row.rest ≡ false)
    {job : ℕ} (is_least : job ≡ least_member row.rest) where
  pub is_member_true : is_member row.rest job ≡ true
  is_member_true = rw is_least (least_has row.rest some).1

  none_before : (q : ℕ) → q < job → is_member row.rest q ≡ false
  none_before q less = least_before row.rest q (rw is_least at less)

  pub job_below : job < work.jobs
  job_below = (before.rest_are job is_member_true).1

  pub job_small : job < max_jobs
  job_small = rw is_least (least_has row.rest some).0

  pub job_open : Open (problem_in work) i job
  job_open = (before.rest_are job is_member_true).2

  pub job_due : numbers_in work.last job ≤ row.uncrossed
  job_due = (before.rest_are job is_member_true).3

  -- the jobs before it are passed
  tables_at : RefillTables work loads table holders left cross i job
  tables_at =
      cells_passed before.inside before.tables before.uncrossed_are.late before.uncrossed_are.none
      (before.rest_are job is_member_true).0 (omega (arith, job_below))
      (λ q from to is_open_true. before.others q from (omega (arith, job_below)) is_open_true (none_before q to))

  pub can_take_next : CanTake work.jobs work.last table holders left cross i job
  can_take_next = can_take before.inside job_below tables_at job_open.to

  -- the members after it
  later_member : (q : ℕ) → is_member (without_job row.rest job) q ≡ true → (is_member row.rest q ≡ true) × (suc job ≤ q)
  later_member q has = go (ℕ_discrete q job)
    where
      go : Dec (q ≡ job) → (is_member row.rest q ≡ true) × (suc job ≤ q)
      go (yes e) = absurd (true≢false (sym (rw e at has) ∙ without_here row.rest job))
      go (no other) = let member = sym (without_other row.rest job q other) ∙ has in (member, after member (lt_or_le q job))
        where
          after : is_member row.rest q ≡ true → (q < job) ⊎ (job ≤ q) → suc job ≤ q
          after member (inl less) = absurd (true≢false (sym member ∙ none_before q less))
          after member (inr order) = omega (arith, other)

  module _ {table-after holders-after left_after cross-after : List ℕ}
      (taken : CellTaken work.jobs work.last table holders left cross table-after holders-after left_after cross-after i job) where
    pub next_kept : KeptPast (work.intervals * work.jobs) table table-after
    next_kept = cell_kept before.inside job_below tables_at job_open taken

    pub tables_next : RefillTables work loads table-after holders-after left_after cross-after i (suc job)
    tables_next = cell_taken before.inside job_below tables_at job_open taken

    uncrossed_next_job : Uncrossed work.intervals (suc i) row.uncrossed cross-after next
    uncrossed_next_job = uncrossed_stay before.uncrossed_are (cross_falls taken.takes)

    still_finished : (q : ℕ) → q < work.jobs → is_member row.finished q ≡ true → numbers_in left_after q ≡ 0
    still_finished q below has = omega (arith, left_falls taken.takes q, before.are_finished q below has)

    -- of the others after it that are no members nothing can be taken, as before
    still_others : (q : ℕ) → suc job ≤ q → q < work.jobs → Open (problem_in work) i q → is_member (without_job row.rest job) q ≡ false
        → (numbers_in left_after q ≡ 0) ⊎ (row.uncrossed < numbers_in work.last q)
    still_others q from below is_open_true hasn't =
        let other : q ≡ job → ⊥ = λ e. omega arith in
        go other (before.others q (omega (arith, (before.rest_are job is_member_true).0)) below is_open_true (sym (without_other row.rest job q other) ∙ hasn't))
      where
        go : (q ≡ job → ⊥) → (numbers_in left q ≡ 0) ⊎ (row.uncrossed < numbers_in work.last q)
            → (numbers_in left_after q ≡ 0) ⊎ (row.uncrossed < numbers_in work.last q)
        go other (inl none) = inl (taken.takes.others q other ∙ none)
        go other (inr past) = inr past

    -- it is finished
    pub row_finishes : numbers_in left_after job ≡ 0
        → InRow work loads table-after holders-after left_after cross-after next i
        (record { uncrossed = row.uncrossed; finished = with_job row.finished job; rest = without_job row.rest job })
    row_finishes none =
        record {
          inside = before.inside;
          count = suc job;
          count_most = job_below;
          tables = tables_next;
          uncrossed_are = uncrossed_next_job;
          are_finished = λ q below has. finished q below has (ℕ_discrete q job);
          rest_are = λ q has.
              let (member, from) = later_member q has in
              let known = before.rest_are q member in
              (from, known.1, known.2, known.3);
          others = still_others;
        }
      where
        finished : (q : ℕ) → q < work.jobs → is_member (with_job row.finished job) q ≡ true → Dec (q ≡ job) → numbers_in left_after q ≡ 0
        finished q below has (yes e) = rw e none
        finished q below has (no other) = still_finished q below (sym (with_other row.finished job q job_small other) ∙ has)

    -- some of it is left, and a nearer bound is found that nothing must cross
    pub row_narrows : {sets : List ℕ} {nearer : ℕ} → OpenSets work sets → i < nearer → nearer < numbers_in work.last job → numbers_in cross-after nearer ≡ 0
        → InRow work loads table-after holders-after left_after cross-after (set next nearer row.uncrossed) i
        (record { uncrossed = nearer; finished = row.finished; rest = due_set sets work.intervals (without_job row.rest job) nearer })
    row_narrows {sets} {nearer} opens late early none =
        record {
          inside = before.inside;
          count = suc job;
          count_most = job_below;
          tables = tables_next;
          uncrossed_are = uncrossed_before before.tables.sound.intervals_most uncrossed_next_job late (omega (arith, job_due)) none;
          are_finished = still_finished;
          rest_are = rest_are;
          others = others;
        }
      where
        rest : JobSet
        rest = without_job row.rest job

        rest_are : (q : ℕ) → is_member (due_set sets work.intervals rest nearer) q ≡ true
            → (suc job ≤ q) × (q < work.jobs) × Open (problem_in work) i q × (numbers_in work.last q ≤ nearer)
        rest_are q has =
            let (member, from) = later_member q (due_within sets work.intervals rest nearer q has) in
            let known = before.rest_are q member in
            (from, known.1, known.2, due_by_bound before.tables.sound.sound opens late rest known.1 known.2 has)

        others : (q : ℕ) → suc job ≤ q → q < work.jobs → Open (problem_in work) i q → is_member (due_set sets work.intervals rest nearer) q ≡ false
            → (numbers_in left_after q ≡ 0) ⊎ (nearer < numbers_in work.last q)
        others q from below is_open_true hasn't = go (due-after before.tables.sound.sound opens late rest below is_open_true hasn't)
          where
            further : (numbers_in left_after q ≡ 0) ⊎ (row.uncrossed < numbers_in work.last q) → (numbers_in left_after q ≡ 0) ⊎ (nearer < numbers_in work.last q)
            further (inl e) = inl e
            further (inr past) = inr (omega (arith, job_due))

            go : (is_member rest q ≡ false) ⊎ (nearer < numbers_in work.last q) → (numbers_in left_after q ≡ 0) ⊎ (nearer < numbers_in work.last q)
            go (inr past) = inr past
            go (inl hasn't) = further (still_others q from below is_open_true hasn't)

-- the end: no job is left to ask
pub row_ends : {work : Workload} {loads : ℕ → ℕ} {table holders left cross next : List ℕ} {i : ℕ} {row : Row}
    → InRow work loads table holders left cross next i row → is_empty row.rest ≡ true
    → BetweenRows work loads table holders left cross next (suc i) row.uncrossed row.finished
row_ends {row = row} done empty =
    record {
      tables =
          row_ended done.inside
          (cells_passed done.inside done.tables done.uncrossed_are.late done.uncrossed_are.none done.count_most (omega arith)
          (λ q from to is_open_true. done.others q from to is_open_true (empty_has row.rest empty q)));
      uncrossed_are = done.uncrossed_are;
      are_finished = done.are_finished;
    }
