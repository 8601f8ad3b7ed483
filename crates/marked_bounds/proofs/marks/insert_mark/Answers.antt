-- `marks::insert_mark` meets its contract: a mark that is not strictly between the two times leaves them, by the laws of
-- proofs/MarkedTimes.antt. Assumes nothing.
use mathlib.Core.Path.{◌≡◌, sym}
use mathlib.Core.List.{List}
use Prim.Native.Nat.{ℕ, ◌+◌, ◌<◌, ◌≤◌}
use native.Mathlib.Omega.{arith}
use lib.ListN.{length, take}
use Rattle.model.specs.Limits.{max_bounds}
use Rattle.intervals.specs.Times.{padded}
use Rattle.intervals.proofs.Padded.{length_times}
use Rattle.marked_bounds.proofs.MarkedTimes.{mark_early, mark_late, mark_cuts}
use Rattle.marked_bounds.proofs.marks.insert_mark.Goals as goal

-- nothing is put in
kept : (times : List ℕ) (count : ℕ) → count < max_bounds → times ≡ padded (take count times) → (next : List ℕ) → take count times ≡ next
    → (times ≡ padded next) × (count ≡ length next) × (count ≤ count + 1)
kept times count fits held next same = rw (← same) (held, sym (length_times times count fits held), omega arith)

pub returns-then-mark-first : goal.returns-then-mark-first
returns-then-mark-first c =
    let a = c.args in
    kept _ _ c.requires.0 c.requires.1 _ (mark_early a.first a.last a.mark (take a.count a.times.now) (omega arith))

pub returns-then-mark-last : goal.returns-then-mark-last
returns-then-mark-last c =
    let a = c.args in
    kept _ _ c.requires.0 c.requires.1 _ (mark_late a.first a.last a.mark (take a.count a.times.now) (omega arith) (omega arith))

pub returns : goal.returns
returns c =
    let a = c.args in
    rw (mark_cuts a.first a.last a.mark (take a.count a.times.now) (omega arith) (omega arith)) at c.insert_time.ensures
