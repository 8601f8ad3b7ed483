-- Laws of the cells that are written interval by interval: before the first interval, one more, and after the last.
-- Assumes nothing.
use mathlib.Core.Path.{◌≡◌, sym, ◌∙◌, ap}
use mathlib.Core.List.{List}
use Prim.Native.Nat.{ℕ, ◌+◌, ◌*◌, ◌<◌, ◌≤◌}
use native.Mathlib.Omega.{arith}
use lib.ListN.{length}
use lib.Seq.{sets}
use Rattle.model.specs.Limits.{max_jobs}
use Rattle.job_sets.specs.declared.JobSet.{JobSet}
use Rattle.job_sets.specs.JobSets.{member_count}
use Rattle.spans.specs.SpanAnswers.{listed}
use Rattle.spans.specs.TouchedIn.{members_from, set_within, cells_within}
use Rattle.spans.proofs.Listed.{listed_none, length_listed, listed_more}
use Rattle.spans.proofs.MemberLists.{members_length}
use Rattle.spans.proofs.StepLists.{cells_none, cells_next, cells_more, cells_longer, cells_room}

module _ (times cells : List ℕ) (intervals start end : ℕ) (before : List ℕ) where
  abbrev written : (i : ℕ) → List ℕ
  written i = cells_within times cells i start end

  -- the cells of the first i intervals are written, and the next place is the one after them
  pub record CellsPut (i next : ℕ) (list : List ℕ) : Type 0 where
    pub low : i ≤ intervals
    pub next_is : next ≡ length (written i)
    pub list_is : list ≡ listed (written i) before

  pub put_none : CellsPut 0 0 before
  put_none =
      let none = cells_none times cells start end in
      record { low = omega arith; next_is = rw none; list_is = rw none (sym (listed_none before)) }

  module _ (room : length (written intervals) ≤ length before) (i next : ℕ) (list : List ℕ) (put : CellsPut i next list) where
    -- what is written keeps the list's length
    pub length_put : length list ≡ length before
    length_put =
        rw put.list_is
        (length_listed (written i) before (omega (arith, room, cells_longer times cells start end i intervals put.low)))

    -- after the last interval
    pub put_whole : intervals ≤ i → list ≡ listed (written intervals) before
    put_whole high = let e : intervals ≡ i = omega (arith, put.low) in rw e put.list_is

    module _ (more : i < intervals) (set : JobSet) (is_set : set ≡ set_within times cells start end i) where
      -- the next interval's cells have room
      pub put_room : next + member_count set ≤ length list
      put_room =
          rw is_set
          (omega (arith, put.next_is, length_put, cells_room times cells start end i intervals (length before) more room))

      pub put_next : (next-after : ℕ) (after : List ℕ) → next-after ≡ next + member_count set → after ≡ sets list next (members_from (i * max_jobs) set)
          → CellsPut (i + 1) next-after after
      put_next next-after after counted stored =
          let long = members_length (i * max_jobs) (set_within times cells start end i) in
          record {
            low = omega arith;
            next_is = counted ∙ cells_more times cells start end i next (member_count set) put.next_is (ap member_count is_set);
            list_is =
                rw (stored, put.list_is, is_set, cells_next times cells start end i)
                (listed_more (written i) (members_from (i * max_jobs) (set_within times cells start end i)) before next put.next_is
                (omega (arith, long, cells_room times cells start end i intervals (length before) more room)));
          }
