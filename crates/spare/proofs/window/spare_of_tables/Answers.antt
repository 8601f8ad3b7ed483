-- `window::spare_of_tables` meets its contract. Each way out rests on the tests that led there, and on `window_spare`.
-- Assumes nothing.
use mathlib.Core.Path.{◌≡◌, ◌∙◌}
use mathlib.Core.List.{List}
use Prim.Native.Nat.{ℕ, ◌<◌, ◌≤◌}
use native.Mathlib.Omega.{arith}
use lib.IntN.{ℤ}
use mir.Syntax.{w64}
use mir.Val.{SFits}
use mir.Facts.{to_z-of_z}
use borrow.Author.Rules.{rules}
use borrow.Author.Tests.{lt-ltb, le-ltb, lt-leb, le-leb}
use Rattle.std.specs.Prelude.{Ok, Err}
use Rattle.model.specs.declared.Job.{Job}
use Rattle.model.specs.Limits.{max_deadline}
use Rattle.model.specs.Refusals.{refusal}
use Rattle.model.specs.Processors.{top_of}
use Rattle.model.specs.Sites.{Tables}
use Rattle.model.specs.Windows.{spare_of, spare_for}
use Rattle.spare.specs.Answers.{spare_answer}
use Rattle.spare.proofs.window.spare_of_tables.Goals as goal

module _ (tables : Tables) (start end : ℕ) where
  empty : end ≤ start → Err (refusal 27 0) ≡ spare_answer (spare_for tables start end)
  empty h = rw (le-leb end start h)

  module _ (some : start < end) where
    late : max_deadline < end → Err (refusal 27 0) ≡ spare_answer (spare_for tables start end)
    late h = rw (lt-leb end start some, lt-ltb max_deadline end h)

    answered : end ≤ max_deadline → (top : ℕ) (jobs : List Job) → top_of tables.processor ≡ top → tables.jobs ≡ jobs
        → (found : ℤ) → found ≡ spare_of top jobs start end → Ok found ≡ spare_answer (spare_for tables start end)
    answered early top jobs is-top are-jobs found e = rw (lt-leb end start some, le-ltb max_deadline end early, is-top, are-jobs, e)

pub returns-then-end-start : goal.returns-then-end-start
returns-then-end-start c = λ tables top jobs. rw c.at.ensures (empty tables _ _ c.if-end-start.true)

pub returns-then-end-gt-MAX_DEADLINE : goal.returns-then-end-gt-MAX_DEADLINE
returns-then-end-gt-MAX_DEADLINE c = λ tables top jobs. rw c.at-then-end-gt-MAX_DEADLINE.ensures (late tables _ _ c.if-end-start.false c.if-end-gt-MAX_DEADLINE.true)

pub window_spare-requires : goal.window_spare-requires
window_spare-requires c = record { valid_jobs = c.requires.0; top_le_max_frequency = (c.requires.1, omega arith, c.if-end-gt-MAX_DEADLINE.false) }

pub returns : goal.returns
returns c = λ tables top jobs.
    let fits : SFits w64 c.window_spare.result = search rules in
    answered tables _ _ c.if-end-start.false c.if-end-gt-MAX_DEADLINE.false _ _ top jobs _ (to_z-of_z fits ∙ c.window_spare.ensures)
