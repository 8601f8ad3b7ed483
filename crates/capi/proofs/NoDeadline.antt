-- In an answer for C a deadline of 0 says that there is none: the nearest deadline is a job's, and comes after its release.
-- Assumes nothing.
use mathlib.Core.Path.{◌≡◌, refl, ap}
use mathlib.Core.List.{List}
use mathlib.Core.Option.{Option, none, some}
use Prim.Native.Nat.{ℕ, ◌<◌}
use native.Mathlib.Omega.{arith}
use lib.ListN.{length}
use Rattle.model.specs.declared.Job.{Job}
use Rattle.model.specs.Jobs.{ValidJobs}
use Rattle.model.proofs.Jobs.{jobs_valid}
use Rattle.model.proofs.SiteParameters.{altered_are_valid}
use Rattle.model.proofs.Search.{least_below_found}
use Rattle.spans.specs.Spans.{Touched, nearest_deadline, touched}
use Rattle.spans.specs.SpanAnswers.{nearest_answer}
use Rattle.touching.proofs.TouchingOutcomes.{touching_answered, answered_touched}
use Rattle.capi.specs.Results.{deadline_number, ZeroIsNone}

module _ (jobs : List Job) (valid : ValidJobs jobs) (start : ℕ) where
  deadline_above : (deadline : ℕ) → nearest_deadline jobs start ≡ some deadline → 0 < deadline
  deadline_above deadline e =
      let (j, below, late, is) = (least_below_found (length jobs) _ _ deadline e).found in
      omega (arith, valid.release_before_deadline j below, is)

  zero_none : (nearest : Option ℕ) → nearest_deadline jobs start ≡ nearest → deadline_number (nearest_answer nearest) ≡ 0 → nearest ≡ none
  zero_none none e zero = refl
  zero_none (some deadline) e zero = absurd (omega (arith, zero, deadline_above deadline e))

pub zero_is_none : ZeroIsNone
unfolding touched
zero_is_none job_bytes mark_bytes free margin plan start end before t answered zero =
    let (right, (given, jobs, marks, read, marks_read, altered, rest)) = touching_answered job_bytes mark_bytes free margin plan start end before t answered in
    let same : nearest_deadline jobs start ≡ t.deadline =
    ap (λ (found : Touched). found.deadline) (answered_touched jobs _ plan start end before t rest) in
    zero_none jobs (altered_are_valid.1 free margin given jobs (jobs_valid job_bytes given read) altered) start t.deadline same zero
