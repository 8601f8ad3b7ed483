-- The operation that lists what touches a span (document 02, Changes 5, 6 and 9).
use Rattle.std.specs.Prelude.{ℕ, List, ◌⊎◌, length}
use Rattle.model.specs.declared.Job.{Job}
use Rattle.model.specs.Outcome.{Outcome, refused, answer, and_then, refuse_when, refuse_under, From, RefusesBy}
use Rattle.model.specs.Jobs.{read_jobs}
use Rattle.model.specs.SiteParameters.{alter_jobs}
use Rattle.model.specs.Marks.{read_marks, bounds_with}
use Rattle.model.specs.Windows.{wrong_span}
use Rattle.model.specs.Checking.{stepping}
use Rattle.spans.specs.Spans.{Touched, touched}
use Rattle.spans.specs.SpanAnswers.{listed}

-- The three lists that are lent, in this order.
pub record Lists : Type 0 where
  pub open_jobs : List ℕ
  pub inside_jobs : List ℕ
  pub steps : List ℕ

-- "a lent list too short (the first such, in this order) gives 14, last", with the length wanted as its place.
abbrev pub where_room : (before : Lists) → Touched → Outcome Touched
where_room before t =
    refuse_under (length t.open_jobs) 14 (length before.open_jobs)
    (refuse_under (length t.inside_jobs) 14 (length before.inside_jobs)
    (refuse_under (length t.steps) 14 (length before.steps)
    (answer t)))

-- What touches the span where jobs and marks were read and the jobs altered: the plan's refusals 15 to 18, then 14.
unfoldable pub touching_for : List Job → (bounds plan : List ℕ) → (start end : ℕ) → (before : Lists) → Outcome Touched
touching_for jobs bounds plan start end before =
    stepping jobs bounds plan
    (where_room before (touched jobs bounds plan start end))

-- "33 start not before end, or end above 1,000,000, before the job table and then the plan are read"; the marks stand beside the
-- job table, and 34 comes "after the job table's own"; 35 and 36 come "right after those of .. jobs and marks". No level table is read,
-- and the highest running level does not bear on it.
unfoldable pub touching : (job_bytes mark_bytes : List ℕ) → (free margin : ℕ) → (plan : List ℕ) → (start end : ℕ) → (before : Lists) → Outcome Touched
touching job_bytes mark_bytes free margin plan start end before =
    refuse_when (wrong_span start end) 33
    (and_then (read_jobs job_bytes) λ given.
    and_then (read_marks mark_bytes) λ marks.
    and_then (alter_jobs free margin given) λ jobs.
    touching_for jobs (bounds_with marks jobs) plan start end before)

-- What the lent lists hold afterwards. A refused call changes nothing.
abbrev pub lists_after : Outcome Touched → (before : Lists) → Lists
lists_after (refused number place) before = before
lists_after (answer t) before = record {
  open_jobs = listed t.open_jobs before.open_jobs;
  inside_jobs = listed t.inside_jobs before.inside_jobs;
  steps = listed t.steps before.steps;
}

-- The numbers that the operation refuses by: 33, the job table's, that of the marks, those of the parameters, the plan's up to 18, and 14.
abbrev pub TouchingNumbers : ℕ → Type 0
TouchingNumbers number = (From 33 33 number ⊎ (From 6 10 number ⊎ From 34 36 number)) ⊎ (From 15 18 number ⊎ From 14 14 number)

-- Proved in proofs/TouchingRefusals.antt.
abbrev pub TouchingRefuses : Type 0
TouchingRefuses =
    (job_bytes mark_bytes : List ℕ) (free margin : ℕ) (plan : List ℕ) (start end : ℕ) (before : Lists)
    → RefusesBy TouchingNumbers (touching job_bytes mark_bytes free margin plan start end before)
