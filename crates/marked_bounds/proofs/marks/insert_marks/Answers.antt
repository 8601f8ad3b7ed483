use mathlib.Core.Path.{◌≡◌, sym, ◌∙◌, ap}
use Prim.Native.Nat.{ℕ, ◌-◌, ◌<◌, ◌≤◌}
use native.Mathlib.Omega.{arith}
use mathlib.Core.List.{List, [], ◌∷◌, ◌++◌, reverse}
use lib.ListN.{length, get_or, take, length-take, length-reverse, length-append}
use lib.Seq.{get_or-take}
use Rattle.std.proofs.lemmas.List.{get_or-reverse}
use Rattle.std.proofs.lemmas.Grind.{get_or_default_zero}
use Rattle.std.proofs.lemmas.Iterator.Adapters.{YieldsList-from_rev_slice}
use Rattle.std.proofs.lemmas.Iterator.Consumers.{YieldsList-turn, YieldsList-end}
use Rattle.model.specs.Marks.{insert_mark}
use Rattle.intervals.specs.Times.{HoldsTimes}
use Rattle.intervals.proofs.Padded.{length_padded, times_taken, holds_padded, holds_rising, holds_next}
use Rattle.marked_bounds.proofs.MarkedTimes.{marks_none, marks_more, marks_whole, marked_times_rise}
use Rattle.marked_bounds.proofs.marks.insert_marks.Goals as goal
use Rattle.marked_bounds.proofs.marks.insert_marks.Goals.{In-Some}

-- the item of a turn from the last mark down
turned : (count : ℕ) (marks : List ℕ) (n mark : ℕ) → count ≤ length marks
    → (n < length (reverse (take count marks))) × (mark ≡ get_or (reverse (take count marks)) n mark) → (n < count) × (mark ≡ get_or marks (count - n - 1) 0)
turned count marks n mark long (inside, same) =
    let whole : length (take count marks) ≡ count = omega (arith, length-take count marks) in
    let below : n < count = omega (arith, length-reverse (take count marks)) in
    let place : length (take count marks) - 1 - n ≡ count - n - 1 = omega arith in (
      below,
      same ∙ get_or-reverse (take count marks) n mark (omega (arith, whole))
          ∙ ap (λ (k : ℕ). get_or (take count marks) k mark) place
          ∙ get_or-take count marks (count - n - 1) mark (omega arith)
          ∙ get_or_default_zero marks (count - n - 1) mark (omega arith),
    )

this : (c : In-Some) → let a = c.args in let n = length c.loop-mark.yielded in (n < a.mark_count) × (c.in-Some.mark.now ≡ get_or a.marks.now (a.mark_count - n - 1) 0)
this c =
    let a = c.args in
    turned a.mark_count a.marks.now _ _ (omega arith)
    (YieldsList-turn (YieldsList-from_rev_slice (take a.mark_count a.marks.now) (cc)) c.loop-mark.yielded _ c.loop-mark.yielded_by _ _ c.in-Some.mark c.in-Some.is c.next.ensures.steps)

pub loop-mark-init : goal.loop-mark-init
loop-mark-init c =
    let a = c.args in
    let held : HoldsTimes a.times.now a.count (take a.count a.times.now) =
    record { array = c.requires.times_value.0; counted = sym (times_taken c.requires.times_value.1 c.requires.times_value.0) } in
    let all : a.mark_count - 0 ≡ a.mark_count = omega arith in
    (omega arith, omega arith, rw (all, ← marks_none a.first a.last a.mark_count a.marks.now (take a.count a.times.now)) held)

pub insert_mark-bounds-requires : goal.insert_mark-bounds-requires
insert_mark-bounds-requires c =
    let held = c.loop-mark.invariant.2 in
    let a = c.args in
    let size = ap length c.requires.times_value.0 ∙ length_padded (take a.count a.times.now) in
    let below = (this (goal.at.insert_mark-bounds-requires c).In-Some).0 in
    (omega arith, holds_padded held (omega arith), holds_rising held (omega arith) (marked_times_rise _ _ _ _ _ size c.requires.times_value.1))

pub loop-mark-preserved : goal.loop-mark-preserved
loop-mark-preserved c =
    let a = c.args in
    let held = c.loop-mark.invariant.2 in
    let found = this (goal.at.loop-mark-preserved c).In-Some in
    let n = length c.loop-mark.yielded in
    let next : a.mark_count - length (c.loop-mark.yielded ++ (c.in-Some.mark ∷ [])) ≡ a.mark_count - n - 1 = omega (arith, length-append c.loop-mark.yielded (c.in-Some.mark ∷ [])) in (
      omega (arith, found.0, length-append c.loop-mark.yielded (c.in-Some.mark ∷ [])),
      omega (arith, length-append c.loop-mark.yielded (c.in-Some.mark ∷ [])),
      rw (next, marks_more a.first a.last a.mark_count a.marks.now (take a.count a.times.now) (a.mark_count - n) (omega (arith, found.0)) (omega arith), ← found.1)
          (holds_next held (omega arith) _ _ (insert_mark a.first a.last c.in-Some.mark.now) c.insert_mark-bounds.ensures.0 c.insert_mark-bounds.ensures.1),
    )

pub returns : goal.returns
returns c =
    let a = c.args in
    let all = YieldsList-end (YieldsList-from_rev_slice (take a.mark_count a.marks.now) (cc)) c.loop-mark.yielded _ c.loop-mark.yielded_by _ _ c.in-None.is c.next.ensures.steps in
    let last : a.mark_count - length c.loop-mark.yielded ≤ 0 = omega (arith, all.1, length-reverse (take a.mark_count a.marks.now), length-take a.mark_count a.marks.now) in
    rw (marks_whole a.first a.last a.mark_count a.marks.now (take a.count a.times.now) _ last) at c.loop-mark.invariant.2
