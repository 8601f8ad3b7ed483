-- `jobs::nearest_deadline` meets its contract. The loop's invariant: the nearest of the deadlines passed
-- (proofs/NearestDeadlines.antt). Assumes nothing.
use mathlib.Core.Path.{◌≡◌}
use Prim.Native.Nat.{◌≤◌}
use Rattle.spans.specs.SpanAnswers.{nearest_answer}
use Rattle.spans.specs.TouchedIn.{nearest_in}
use Rattle.spans.proofs.jobs.nearest_deadline.Given as goal

abbrev pub invariant-loop-deadline : goal.invariant-loop-deadline
invariant-loop-deadline l = (l.deadline-index ≤ l.count) × (l.nearest ≡ nearest_answer (nearest_in l.deadlines l.deadline-index l.start))
