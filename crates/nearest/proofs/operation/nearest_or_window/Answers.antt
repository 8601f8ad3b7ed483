-- `operation::nearest_or_window` meets its contract: the window that is found, or what `list_fitting` keeps (proofs/NearestStages.antt).
-- Assumes nothing.
use mathlib.Core.Path.{sym, ◌∙◌}
use Prim.Native.Nat.{◌≤◌}
use mir.Syntax.{w64}
use mir.Val.{SFits}
use mir.Facts.{to_z-of_z}
use Rattle.model.specs.Limits.{max_deadline}
use Rattle.windows.proofs.Answers.{fits_none, window_inside}
use Rattle.nearest.proofs.NearestStages.{window_found, set_fits}
use native.Mathlib.Omega.{arith}
use borrow.Author.Rules.{rules}
use Rattle.nearest.proofs.operation.nearest_or_window.Goals as goal
use Rattle.nearest.proofs.operation.nearest_or_window.Goals.{In-Some}

pub earliest_overfull-test-requires : goal.earliest_overfull-test-requires
earliest_overfull-test-requires c =
    let (tables, bounds, held) = c.requires in
    record { by_index = (tables.jobs, bounds, held.rooms.tests); top_le_max_frequency = held.top_small }

-- the window that is found lies inside the horizon
inside : (c : In-Some) → (c.in-Some.window.start ≤ c.in-Some.window.end) × (c.in-Some.window.end ≤ max_deadline)
inside c =
    let (tables, bounds, held) = c.requires in
    window_inside _ _ _ held.rooms.tests.valid (sym (c.earliest_overfull-test.ensures _ _ held.rooms.tests).found_is ∙ c.in-Some.is)

pub window_spare-spare-requires : goal.window_spare-spare-requires
window_spare-spare-requires c =
    let (tables, bounds, held) = c.requires in
    record { valid_jobs = rw held.jobs_are held.rooms.tests.valid; top_le_max_frequency = (held.top_small, (inside (goal.at.window_spare-spare-requires c).In-Some).0, (inside (goal.at.window_spare-spare-requires c).In-Some).1) }

pub overflow_cast-result : goal.overflow_cast-result
overflow_cast-result c = record { fits = omega (arith, inside (goal.at.overflow_cast-result c).In-Some) }

pub overflow_cast-result-in-Some : goal.overflow_cast-result-in-Some
overflow_cast-result-in-Some c = record { fits = omega (arith, inside (goal.at.overflow_cast-result-in-Some c).In-Some) }

pub list_fitting-requires : goal.list_fitting-requires
list_fitting-requires c =
    let (tables, bounds, held) = c.requires in
    let no-window = fits_none _ (sym (c.earliest_overfull-test.ensures _ _ held.rooms.tests).found_is ∙ c.in_default.is) in
    record { by_index = (tables.jobs, bounds, held.rooms, no-window); top_le_max_frequency = held.top_small }

pub returns-in-Some : goal.returns-in-Some
returns-in-Some c = λ tables bounds held.
    let fits : SFits w64 c.window_spare-spare.result = search rules in
    window_found tables _ _ _ _ held.top_is
    (sym (c.earliest_overfull-test.ensures _ _ held.rooms.tests).found_is ∙ c.in-Some.is)
    (to_z-of_z fits ∙ rw held.jobs_are at c.window_spare-spare.ensures)

pub returns : goal.returns
returns c = λ tables bounds held.
    let no-window = fits_none _ (sym (c.earliest_overfull-test.ensures _ _ held.rooms.tests).found_is ∙ c.in_default.is) in
    set_fits tables _ _ held.top_is no-window (c.list_fitting.ensures tables.jobs bounds held.rooms no-window)
