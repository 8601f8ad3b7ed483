-- Laws of the nearest deadline: what one deadline more makes of what was found.
-- Assumes nothing.
use mathlib.Core.Path.{◌≡◌, refl, ap}
use mathlib.Core.List.{List}
use mathlib.Core.Option.{Option as Nearest, none, some}
use Prim.Native.Nat.{ℕ, ◌+◌, ◌<◌, ◌≤◌, min}
use native.Mathlib.Omega.{arith}
use lib.ListN.{get_or}
use lib.Dec.{leb}
use borrow.Author.Tests.{lt-leb, le-leb}
use native.Mathlib.Numerals.{add-one}
use Rattle.std.specs.Prelude.{Option, Some, None}
use Rattle.model.specs.Search.{smaller, least_below}
use Rattle.spans.specs.SpanAnswers.{nearest_answer}
use Rattle.spans.specs.TouchedIn.{nearest_in}

-- before the first job, and one job more
pub nearest_none : (deadlines : List ℕ) (start : ℕ) → None ≡ nearest_answer (nearest_in deadlines 0 start)
unfolding least_below
nearest_none deadlines start = refl

pub nearest_more : (deadlines : List ℕ) (start j : ℕ)
    → nearest_in deadlines (j + 1) start ≡ smaller (leb start (get_or deadlines j 0)) (get_or deadlines j 0) (nearest_in deadlines j start)
unfolding least_below
nearest_more deadlines start j = rw (add-one j)

module _ (deadline start : ℕ) where
  -- a deadline before the start does not count
  pub nearer_early : deadline < start → (found : Option ℕ) (least : Nearest ℕ) → found ≡ nearest_answer least
      → found ≡ nearest_answer (smaller (leb start deadline) deadline least)
  nearer_early early found least was = rw (lt-leb start deadline early) was

  module _ (counts : start ≤ deadline) where
    -- nothing was found
    pub nearer_first : (least : Nearest ℕ) → None ≡ nearest_answer least → Some deadline ≡ nearest_answer (smaller (leb start deadline) deadline least)
    nearer_first none was = rw (le-leb start deadline counts)
    nearer_first (some value) was = cc was

    -- the deadline is nearer than what was found, or is not
    pub nearer_than : (value : ℕ) → deadline < value → (least : Nearest ℕ) → Some value ≡ nearest_answer least
        → Some deadline ≡ nearest_answer (smaller (leb start deadline) deadline least)
    nearer_than value near none was = cc was
    nearer_than value near (some found) was =
        let same : value ≡ found = cc was in
        let is : deadline ≡ min deadline found = omega arith in
        rw (le-leb start deadline counts) (ap Some is)

    pub not_nearer : (value : ℕ) → value ≤ deadline → (least : Nearest ℕ) → Some value ≡ nearest_answer least
        → Some value ≡ nearest_answer (smaller (leb start deadline) deadline least)
    not_nearer value far none was = cc was
    not_nearer value far (some found) was =
        let same : value ≡ found = cc was in
        let is : value ≡ min deadline found = omega arith in
        rw (le-leb start deadline counts) (ap Some is)
