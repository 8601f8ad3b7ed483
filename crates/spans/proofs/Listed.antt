-- Laws of a lent list with members at its start: with none it is as it was, more members are stored after those that it has, and
-- members that are stored from its start on.
-- Assumes nothing.
use mathlib.Core.Path.{◌≡◌, refl}
use mathlib.Core.List.{List, [], ◌++◌}
use Prim.Native.Nat.{ℕ, ◌+◌, ◌≤◌}
use native.Mathlib.Omega.{arith}
use lib.ListN.{length, drop, length-append, length-drop}
use lib.Seq.{sets, sets-eq, take-append_seam, drop-append-add, drop-drop}
use Rattle.spans.specs.SpanAnswers.{listed}

pub listed_none : (before : List ℕ) → listed [] before ≡ before
listed_none before = refl

-- it keeps its length
pub length_listed : (a before : List ℕ) → length a ≤ length before → length (listed a before) ≡ length before
length_listed a before room = rw (length-append a (drop (length a) before), length-drop (length a) before) (omega arith)

-- more members, stored after those that it has
pub listed_more : (a b before : List ℕ) (next : ℕ) → next ≡ length a → length a + length b ≤ length before
    → sets (listed a before) next b ≡ listed (a ++ b) before
listed_more a b before next is-next room =
    rw (is-next, sets-eq b (listed a before) (length a) (rw (length_listed a before (omega arith)) room))
    (rw (take-append_seam a (drop (length a) before), drop-append-add a (drop (length a) before) (length b), drop-drop (length b) (length a) before, length-append a b) refl)

-- members that are stored from its start on
pub listed_front : (a before : List ℕ) → length a ≤ length before → sets before 0 a ≡ listed a before
listed_front a before room = listed_more [] a before 0 refl (omega arith)
