-- Laws of what is due at each bound and by it, and of the crosses so far.
-- Assumes nothing.
use mathlib.Core.Path.{◌≡◌, refl, ◌∙◌}
use mathlib.Core.Logic.{◌⊎◌, inl, inr}
use mathlib.Core.List.{List}
use Prim.Native.Nat.{ℕ, ◌+◌, ◌-◌, ◌<◌, ◌≤◌, ◌^◌}
use native.Mathlib.Decide.{ℕ_discrete}
use native.Mathlib.Omega.{arith}
use lib.Dec.{eqb, leb}
use lib.ListN.{length, set, length-set}
use lib.Seq.{get_or-set_same, get_or-set_other}
use borrow.Author.Tests.{eq-eqb, ne_eqb, le-leb, lt-leb}
use Rattle.model.specs.Limits.{max_bounds}
use Rattle.model.specs.Sum.{sum, only_if}
use Rattle.model.proofs.Numbers.{lt_or_le}
use Rattle.model.proofs.Sum.{sum_cong, sum_zero, sum_add, sum_next, sum_longer}
use Rattle.workloads.specs.Arrays.{numbers_in}
use Rattle.due_cycles.specs.Due.{due_at}
use Rattle.refilling.specs.Crosses.{due_to, CanCross}

-- nothing is due by the first bound where each window ends after it
pub due_start : (jobs : ℕ) (last cycles : ℕ → ℕ) → ((j : ℕ) → j < jobs → 0 < last j) → due_to jobs last cycles 0 ≡ 0
unfolding due_to
due_start jobs last cycles window = sum_zero jobs (λ j h. rw (lt-leb (last j) 0 (window j h)))

pub due_first : (jobs : ℕ) (last cycles : ℕ → ℕ) → ((j : ℕ) → j < jobs → 0 < last j) → due_at jobs last cycles 0 ≡ 0
unfolding due_at
due_first jobs last cycles window = sum_zero jobs (λ j h. rw (ne_eqb (last j) 0 (λ e. omega (arith, window j h))))

-- what is due by the next bound
pub due_next : (jobs : ℕ) (last cycles : ℕ → ℕ) (b : ℕ) → due_to jobs last cycles (b + 1) ≡ due_to jobs last cycles b + due_at jobs last cycles (b + 1)
unfolding due_to due_at
due_next jobs last cycles b =
    sum_cong jobs (λ j h. each j (ℕ_discrete (last j) (b + 1)) (lt_or_le b (last j)))
    ∙ sum_add jobs (λ j. only_if (leb (last j) b) (cycles j)) (λ j. only_if (eqb (last j) (b + 1)) (cycles j))
  where
    each : (j : ℕ) → Dec (last j ≡ b + 1) → (b < last j) ⊎ (last j ≤ b)
        → only_if (leb (last j) (b + 1)) (cycles j) ≡ only_if (leb (last j) b) (cycles j) + only_if (eqb (last j) (b + 1)) (cycles j)
    each j (yes e) order = rw (eq-eqb (last j) (b + 1) e, le-leb (last j) (b + 1) (omega arith), lt-leb (last j) b (omega arith)) (omega arith)
    each j (no other) (inr due) = rw (ne_eqb (last j) (b + 1) other, le-leb (last j) (b + 1) (omega arith), le-leb (last j) b due) (omega arith)
    each j (no other) (inl late) =
        rw (ne_eqb (last j) (b + 1) other, lt-leb (last j) b late, lt-leb (last j) (b + 1) (omega (arith, other))) refl

-- The crosses of the bounds up to `bound` are found, the last of them is `rest`, and past it stands what is due.
pub record CrossedTo (jobs bound : ℕ) (last cycles : ℕ → ℕ) (loads cross : List ℕ) (rest : ℕ) : Type 0 where
  pub size : length cross ≡ max_bounds
  pub here : rest + due_to jobs last cycles bound ≡ sum bound (numbers_in loads)
  pub before : (b : ℕ) → b ≤ bound → numbers_in cross b + due_to jobs last cycles b ≡ sum b (numbers_in loads)
  pub past : (b : ℕ) → bound < b → numbers_in cross b ≡ due_at jobs last cycles b

-- at the first bound nothing crosses
pub crossed_first : {jobs intervals : ℕ} {last cycles : ℕ → ℕ} {loads cross : List ℕ} → CanCross jobs intervals last cycles loads cross
    → CrossedTo jobs 0 last cycles loads cross 0
unfolding sum
crossed_first {jobs} {intervals} {last} {cycles} {loads} {cross} known =
    let none = due_start jobs last cycles known.window in
    record {
      size = known.size;
      here = omega (arith, none);
      before = λ b low.
          let e : b ≡ 0 = omega arith in
          rw e (omega (arith, none, known.due 0, due_first jobs last cycles known.window));
      past = λ b later. known.due b;
    }

-- at the next bound
module _ {jobs intervals bound rest : ℕ} {last cycles : ℕ → ℕ} {loads start cross : List ℕ} (known : CanCross jobs intervals last cycles loads start)
    (so_far : CrossedTo jobs bound last cycles loads cross rest) (inside : bound < intervals) where
  -- what is due by it
  next_is : numbers_in cross (bound + 1) + due_to jobs last cycles bound ≡ due_to jobs last cycles (bound + 1)
  next_is = omega (arith, so_far.past (bound + 1) (omega arith), due_next jobs last cycles bound)

  -- no more is due than is left and run, and this fits 32 bits
  pub next_holds : numbers_in cross (bound + 1) ≤ rest + numbers_in loads bound
  next_holds = omega (arith, next_is, so_far.here, sum_next bound (numbers_in loads), known.holds (bound + 1) (omega arith))

  pub next_small : rest + numbers_in loads bound < 2 ^ 32
  next_small = omega (arith, so_far.here, sum_next bound (numbers_in loads), sum_longer {k = bound + 1} {n = intervals} (numbers_in loads) (omega arith), known.small)

  next_inside : bound + 1 < max_bounds
  next_inside = omega (arith, known.intervals_most)

  -- one bound more
  module _ (next : ℕ) (is-next : next ≡ rest + numbers_in loads bound - numbers_in cross (bound + 1)) where
    next_here : next + due_to jobs last cycles (bound + 1) ≡ sum (bound + 1) (numbers_in loads)
    next_here = omega (arith, is-next, next_holds, next_is, so_far.here, sum_next bound (numbers_in loads))

    next_before : (b : ℕ) → Dec (b ≡ bound + 1) → b ≤ bound + 1
        → numbers_in (set cross (bound + 1) next) b + due_to jobs last cycles b ≡ sum b (numbers_in loads)
    next_before b (yes e) low = rw (e, get_or-set_same cross (bound + 1) next 0 (omega (arith, so_far.size, next_inside))) next_here
    next_before b (no other) low = rw (get_or-set_other cross (bound + 1) b next 0 other) (so_far.before b (omega (arith, other)))

    pub crossed_next : CrossedTo jobs (bound + 1) last cycles loads (set cross (bound + 1) next) next
    crossed_next =
        record {
          size = rw length-set so_far.size;
          here = next_here;
          before = λ b low. next_before b (ℕ_discrete b (bound + 1)) low;
          past = λ b later. get_or-set_other cross (bound + 1) b next 0 (λ e. omega arith) ∙ so_far.past b (omega arith);
        }
