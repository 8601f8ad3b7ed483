-- `operation::list_touched` meets its contract: one law for each way out (proofs/Rooms.antt), from the lengths that are wanted.
-- Assumes nothing.
use mathlib.Core.Path.{◌∙◌, ap}
use Prim.Native.Nat.{◌≤◌}
use native.Mathlib.Omega.{arith}
use Rattle.std.specs.Prelude.{Err}
use Rattle.std.proofs.lemmas.Result.{err_from_is_err_and}
use Rattle.job_sets.proofs.JobSets.{count_most}
use Rattle.spans.specs.TouchedIn.{opens_at, inside_at, touched_in}
use Rattle.touching.proofs.Rooms.{short_room, enough_room, LengthsWanted, open_too_short, inside_too_short, steps_too_short, all_listed, lengths_wanted, set_listed}
use Rattle.touching.proofs.operation.list_touched.Goals as goal
use Rattle.touching.proofs.operation.list_touched.Goals.{After-count_steps-steps_wanted}

-- the lengths that are wanted
wanted : (c : After-count_steps-steps_wanted)
    → let a = c.args in
    LengthsWanted (touched_in a.releases.now a.deadlines.now a.count a.times.now a.cells.now a.intervals a.start a.end)
    c.count-open_wanted.result c.count-inside_wanted.result c.count_steps-steps_wanted.result
wanted c =
    let a = c.args in
    lengths_wanted a.releases.now a.deadlines.now a.count a.times.now a.cells.now a.intervals a.start a.end c.requires.0
    _ _ c.open_within-opened.ensures c.inside_within-inside.ensures _ _ _
    c.count-open_wanted.ensures c.count-inside_wanted.ensures c.count_steps-steps_wanted.ensures.value

-- they are small
few : (c : After-count_steps-steps_wanted) → (c.count-open_wanted.result ≤ 65535) × (c.count-inside_wanted.result ≤ 65535) × (c.count_steps-steps_wanted.result ≤ 65535)
few c = (
  omega (arith, c.count-open_wanted.ensures, count_most c.open_within-opened.result),
  omega (arith, c.count-inside_wanted.ensures, count_most c.inside_within-inside.result),
  omega (arith, c.count_steps-steps_wanted.ensures.upper_bound),
)

pub room_for-requires : goal.room_for-requires
room_for-requires c = omega (arith, (few (goal.at.room_for-requires c).After-count_steps-steps_wanted).0)

pub returns-in_err-room_for : goal.returns-in_err-room_for
returns-in_err-room_for c =
    let passed = err_from_is_err_and c.from_residual.result c.from_residual.ensures.1 in
    let short = short_room _ _ c.room_for.ensures _ c.in_err-room_for.was in
    open_too_short _ _ _ _ _ (wanted (goal.at.returns-in_err-room_for c).After-count_steps-steps_wanted) short.0 _ (passed.1 ∙ ap Err (passed.2 ∙ short.1))

pub room_for-requires-2 : goal.room_for-requires-2
room_for-requires-2 c = omega (arith, (few (goal.at.room_for-requires-2 c).After-count_steps-steps_wanted).1)

pub returns-in_err-room_for-2 : goal.returns-in_err-room_for-2
returns-in_err-room_for-2 c =
    let passed = err_from_is_err_and c.from_residual-in_err-room_for-2.result c.from_residual-in_err-room_for-2.ensures.1 in
    let short = short_room _ _ c.room_for-2.ensures _ c.in_err-room_for-2.was in
    inside_too_short _ _ _ _ _ (wanted (goal.at.returns-in_err-room_for-2 c).After-count_steps-steps_wanted) (enough_room _ _ c.room_for.ensures _ c.in_ok-room_for.was) short.0 _ (passed.1 ∙ ap Err (passed.2 ∙ short.1))

pub room_for-requires-3 : goal.room_for-requires-3
room_for-requires-3 c = omega (arith, (few (goal.at.room_for-requires-3 c).After-count_steps-steps_wanted).2)

pub returns-in_err-room_for-3 : goal.returns-in_err-room_for-3
returns-in_err-room_for-3 c =
    let passed = err_from_is_err_and c.from_residual-in_err-room_for-3.result c.from_residual-in_err-room_for-3.ensures.1 in
    let short = short_room _ _ c.room_for-3.ensures _ c.in_err-room_for-3.was in
    steps_too_short _ _ _ _ _ (wanted (goal.at.returns-in_err-room_for-3 c).After-count_steps-steps_wanted) (enough_room _ _ c.room_for.ensures _ c.in_ok-room_for.was) (enough_room _ _ c.room_for-2.ensures _ c.in_ok-room_for-2.was) short.0 _ (passed.1 ∙ ap Err (passed.2 ∙ short.1))

pub overflow_cast-result : goal.overflow_cast-result
overflow_cast-result c = omega (arith, (few (goal.at.overflow_cast-result c).After-count_steps-steps_wanted).0)

pub overflow_cast-result-2 : goal.overflow_cast-result-2
overflow_cast-result-2 c = omega (arith, (few (goal.at.overflow_cast-result-2 c).After-count_steps-steps_wanted).1)

pub overflow_cast-result-3 : goal.overflow_cast-result-3
overflow_cast-result-3 c = omega (arith, (few (goal.at.overflow_cast-result-3 c).After-count_steps-steps_wanted).2)

pub nearest_deadline-requires : goal.nearest_deadline-requires
nearest_deadline-requires c = (c.requires.0, c.requires.2)

pub returns : goal.returns
unfolding touched_in
returns c =
    let a = c.args in
    let opens = opens_at a.releases.now a.deadlines.now a.start a.end in
    let is_inside = inside_at a.releases.now a.deadlines.now a.start a.end in
    let open-room = enough_room _ _ c.room_for.ensures _ c.in_ok-room_for.was in
    let inside-room = enough_room _ _ c.room_for-2.ensures _ c.in_ok-room_for-2.was in
    let open-written = c.write_members.ensures.list_after in
    let inside-written = c.write_members-2.ensures.list_after in
    all_listed _ _ _ _ _ (wanted (goal.at.returns c).After-count_steps-steps_wanted) open-room inside-room (enough_room _ _ c.room_for-3.ensures _ c.in_ok-room_for-3.was) _ _
    c.nearest_deadline.ensures
    (set_listed _ opens c.requires.0 _ c.open_within-opened.ensures _ _ (omega (arith, open-room)) open-written)
    (set_listed _ is_inside c.requires.0 _ c.inside_within-inside.ensures _ _ (omega (arith, inside-room)) inside-written)
    c.write_steps.ensures
