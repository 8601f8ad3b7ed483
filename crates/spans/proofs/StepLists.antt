-- Laws of the cells that are listed: interval by interval, how many there are, and that they are the plan's steps whose interval
-- shares a tick with the span, where the sets have the cells of the plan's steps and the times are the bounds.
-- Assumes nothing.
use mathlib.Core.Path.{◌≡◌, refl, sym, ◌∙◌}
use mathlib.Core.Bool.{Bool, true, false, cond, ◌&&◌, and-false, and-true}
use mathlib.Core.List.{List, [], ◌++◌}
use Prim.Native.Nat.{ℕ, suc, ◌+◌, ◌*◌, ◌/◌, ◌<◌, ◌≤◌}
use native.Mathlib.Numerals.{add-one}
use native.Mathlib.Omega.{arith}
use lib.ListN.{length, get_or, length-append}
use Rattle.model.specs.Limits.{max_jobs, max_bounds, max_intervals}
use Rattle.model.specs.Intervals.{interval_count, bound_at}
use Rattle.model.specs.Steps.{cell_of}
use Rattle.model.proofs.Sum.{sum_mono, sum_const}
use Rattle.model.proofs.Joined.{joined_next, joined_cong, joined_longer, length_joined}
use Rattle.model.proofs.Passing.{passing_rows}
use Rattle.model.proofs.Steps.{cell_interval}
use Rattle.model.specs.Entries.{joined}
use Rattle.job_sets.specs.declared.JobSet.{JobSet}
use Rattle.job_sets.specs.JobSets.{is_member, member_count, no_jobs}
use Rattle.job_sets.specs.IntervalSets.{set_in}
use Rattle.job_sets.proofs.JobSets.{count_most, none_has}
use Rattle.spans.specs.Spans.{has_cell, shares_tick, steps_touched}
use Rattle.spans.specs.TouchedIn.{members_from, touches_at, set_within, cells_within}
use Rattle.spans.proofs.MemberLists.{members_length}

module _ (times sets : List ℕ) (start end : ℕ) where
  abbrev cells : (intervals : ℕ) → List ℕ
  cells intervals = cells_within times sets intervals start end

  abbrev set : (interval : ℕ) → JobSet
  set interval = set_within times sets start end interval

  pub cells_none : cells 0 ≡ []
  unfolding cells_within joined
  cells_none = refl

  pub cells_next : (i : ℕ) → cells (i + 1) ≡ cells i ++ members_from (i * max_jobs) (set i)
  unfolding cells_within
  cells_next i = joined_next i (λ k. members_from (k * max_jobs) (set k))

  cells_length : (i : ℕ) → length (cells (i + 1)) ≡ length (cells i) + member_count (set i)
  cells_length i =
      rw (cells_next i, length-append (cells i) (members_from (i * max_jobs) (set i)), members_length (i * max_jobs) (set i))

  -- counting them: one interval more, and after the last
  pub cells_more : (i total count : ℕ) → total ≡ length (cells i) → count ≡ member_count (set i) → total + count ≡ length (cells (i + 1))
  cells_more i total count before counted = omega (arith, cells_length i)

  pub cells_whole : (i n total : ℕ) → i ≤ n → n ≤ i → total ≡ length (cells i) → total ≡ length (cells n)
  cells_whole i n total low high counted = let e : n ≡ i = omega arith in rw e counted

  pub cells_longer : (k n : ℕ) → k ≤ n → length (cells k) ≤ length (cells n)
  unfolding cells_within
  cells_longer = joined_longer (λ k. members_from (k * max_jobs) (set k))

  -- the cells of one interval have room
  pub cells_room : (i n room : ℕ) → i < n → length (cells n) ≤ room → length (cells i) + member_count (set i) ≤ room
  cells_room i n room below fits = omega (arith, cells_length i, cells_longer (i + 1) n (omega arith))

  -- there are at most max_jobs for each interval
  pub cells_few : (n : ℕ) → length (cells n) ≤ n * max_jobs
  unfolding cells_within
  cells_few n =
      rw (length_joined n (λ k. members_from (k * max_jobs) (set k)))
      (rw (sum_const n max_jobs)
      at (sum_mono n {f = λ k. length (members_from (k * max_jobs) (set k))} {g = λ k. max_jobs}
      (λ k below. rw (members_length (k * max_jobs) (set k)) (count_most (set k)))))

module _ (bounds plan times sets : List ℕ) (start end : ℕ) (few : length bounds ≤ max_bounds)
    (held : (i : ℕ) → i < length bounds → get_or times i 0 ≡ bound_at bounds i)
    (seen : (i j : ℕ) → i < max_intervals → j < max_jobs → is_member (set_in sets i) j ≡ has_cell plan (cell_of i j)) where
  -- an interval shares a tick by the times where it does by the bounds
  touches : (i : ℕ) → i < interval_count bounds → touches_at times start end i ≡ shares_tick start end bounds i
  touches i below = rw (add-one i, held i (omega arith), held (suc i) (omega arith))

  -- a job in the set of an interval has a step there, and the interval shares a tick
  cell_held : (i j : ℕ) → i < interval_count bounds → j < max_jobs
      → is_member (set_within times sets start end i) j ≡ (has_cell plan (cell_of i j) && shares_tick start end bounds (cell_of i j / max_jobs))
  cell_held i j below small =
      rw (cell_interval i j small, touches i below) (go (shares_tick start end bounds i))
    where
      go : (shares : Bool) → is_member (cond shares (set_in sets i) no_jobs) j ≡ (has_cell plan (cell_of i j) && shares)
      go true = rw (and-true (has_cell plan (cell_of i j))) (seen i j (omega arith) small)
      go false = rw (and-false (has_cell plan (cell_of i j))) (none_has j)

  pub cells_touched : cells_within times sets (interval_count bounds) start end ≡ steps_touched bounds plan start end
  unfolding cells_within
  cells_touched =
      joined_cong (interval_count bounds) _ _
      (λ i below. joined_cong max_jobs _ _ (λ j small. rw (cell_held i j below small)))
      ∙ sym (passing_rows (interval_count bounds) max_jobs (λ cell. has_cell plan cell && shares_tick start end bounds (cell / max_jobs)))
