-- The operation refuses by 33, the job table's numbers, that of the marks, those of the parameters, the plan's up to 18, and
-- 14; where the span is right not by 33.
-- Assumes nothing.
use mathlib.Core.Logic.{◌⊎◌, inl, inr}
use mathlib.Core.List.{List}
use Prim.Native.Nat.{ℕ, ◌<◌, ◌≤◌}
use native.Mathlib.Omega.{arith}
use lib.ListN.{length}
use Rattle.model.specs.Limits.{max_deadline}
use Rattle.model.specs.Outcome.{and_then, From, RefusesBy}
use Rattle.model.specs.Jobs.{read_jobs}
use Rattle.model.specs.SiteParameters.{alter_jobs}
use Rattle.model.specs.Marks.{read_marks, bounds_with}
use Rattle.model.specs.Windows.{wrong_span}
use Rattle.model.proofs.RefusalNumbers.{by_when, by_then, by_under, by_answer, jobs_by, marks_by, alter_jobs_by, stepping_by, widen}
use Rattle.spans.specs.Spans.{Touched, touched}
use Rattle.touching.specs.Touching.{Lists, where_room, touching_for, touching, TouchingNumbers, TouchingRefuses}
use Rattle.touching.proofs.TouchingOutcomes.{span_right}

-- 14 is the only refusal for want of room
pub room_by : (before : Lists) (t : Touched) → RefusesBy (From 14 14) (where_room before t)
room_by before t =
    by_under (From 14 14) (length t.open_jobs) 14 (length before.open_jobs) (omega arith)
    (by_under (From 14 14) (length t.inside_jobs) 14 (length before.inside_jobs) (omega arith)
    (by_under (From 14 14) (length t.steps) 14 (length before.steps) (omega arith)
    (by_answer (From 14 14) t)))

-- The numbers that the operation refuses by where the span is right.
abbrev pub ReadNumbers : ℕ → Type 0
ReadNumbers number = (From 6 10 number ⊎ From 34 36 number) ⊎ (From 15 18 number ⊎ From 14 14 number)

read_by : (job_bytes mark_bytes : List ℕ) (free margin : ℕ) (plan : List ℕ) (start end : ℕ) (before : Lists)
    → RefusesBy ReadNumbers
    (and_then (read_jobs job_bytes) λ given. and_then (read_marks mark_bytes) λ marks. and_then (alter_jobs free margin given) λ jobs. touching_for jobs (bounds_with marks jobs) plan start end before)
unfolding touching_for
read_by job_bytes mark_bytes free margin plan start end before =
    by_then ReadNumbers (read_jobs job_bytes) _ (widen (λ n low. inl (inl low)) (jobs_by job_bytes)) λ given.
    by_then ReadNumbers (read_marks mark_bytes) _ (widen (λ n new. inl (inr (omega (arith, new)))) (marks_by mark_bytes)) λ marks.
    by_then ReadNumbers (alter_jobs free margin given) _ (alter_jobs_by ReadNumbers (inl (inr (omega arith))) (inl (inr (omega arith))) free margin given) λ jobs.
    stepping_by ReadNumbers (λ n from. inr (inl from)) jobs (bounds_with marks jobs) plan
    (widen (λ n from. inr (inr from)) (room_by before (touched jobs (bounds_with marks jobs) plan start end)))

all_numbers : (n : ℕ) → ReadNumbers n → TouchingNumbers n
all_numbers n (inl jobs) = inl (inr jobs)
all_numbers n (inr others) = inr others

pub touching_refuses : TouchingRefuses
unfolding touching
touching_refuses job_bytes mark_bytes free margin plan start end before =
    by_when TouchingNumbers (wrong_span start end) 33 (inl (inl (omega arith))) (widen all_numbers (read_by job_bytes mark_bytes free margin plan start end before))

pub touching_right_by : (job_bytes mark_bytes : List ℕ) (free margin : ℕ) (plan : List ℕ) (start end : ℕ) (before : Lists) → start < end → end ≤ max_deadline
    → RefusesBy ReadNumbers (touching job_bytes mark_bytes free margin plan start end before)
unfolding touching
touching_right_by job_bytes mark_bytes free margin plan start end before some early = rw (span_right start end some early) (read_by job_bytes mark_bytes free margin plan start end before)
