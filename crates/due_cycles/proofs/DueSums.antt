-- Laws of what is due at each bound, job after job.
-- Assumes nothing.
use mathlib.Core.Path.{◌≡◌, refl, sym, ◌∙◌}
use mathlib.Core.List.{List}
use Prim.Native.Nat.{ℕ, ◌+◌, ◌<◌, ◌≤◌}
use native.Mathlib.Decide.{ℕ_discrete}
use native.Mathlib.Numerals.{add-one}
use native.Mathlib.Omega.{arith}
use lib.Dec.{eqb}
use lib.ListN.{length, set}
use lib.Seq.{get_or-set_same, get_or-set_other}
use borrow.Author.Tests.{eq-eqb, ne_eqb}
use Rattle.model.specs.Sum.{sum}
use Rattle.model.proofs.Sum.{sum_mono}
use Rattle.model.proofs.SumMore.{only_if_le}
use Rattle.workloads.specs.Arrays.{numbers_in}
use Rattle.due_cycles.specs.Due.{due_at}

-- no job is due
pub due_none : (last cycles : ℕ → ℕ) (b : ℕ) → due_at 0 last cycles b ≡ 0
unfolding due_at sum
due_none last cycles b = refl

-- one more job, due at the bound or at another
pub due_take : (last cycles : ℕ → ℕ) (b j : ℕ) → b ≡ last j → due_at (j + 1) last cycles b ≡ due_at j last cycles b + cycles j
unfolding due_at sum
due_take last cycles b j e = rw (add-one, eq-eqb (last j) b (sym e))

pub due_pass : (last cycles : ℕ → ℕ) (b j : ℕ) → (b ≡ last j → ⊥) → due_at (j + 1) last cycles b ≡ due_at j last cycles b
unfolding due_at sum
due_pass last cycles b j other = rw (add-one, ne_eqb (last j) b (λ e. other (sym e))) (omega arith)

-- no more is due at a bound than all cycles
pub due_most : (jobs : ℕ) (last cycles : ℕ → ℕ) (b : ℕ) → due_at jobs last cycles b ≤ sum jobs cycles
unfolding due_at
due_most jobs last cycles b = sum_mono jobs (λ j below. only_if_le (eqb (last j) b) (cycles j))

-- the cycles of one more job, stored at its bound
pub due_store : (last cycles : ℕ → ℕ) (j : ℕ) (due : List ℕ) (value : ℕ) → last j < length due
    → ((b : ℕ) → numbers_in due b ≡ due_at j last cycles b) → value ≡ due_at (j + 1) last cycles (last j)
    → (b : ℕ) → numbers_in (set due (last j) value) b ≡ due_at (j + 1) last cycles b
due_store last cycles j due value inside so_far here b = go (ℕ_discrete b (last j))
  where
    go : Dec (b ≡ last j) → numbers_in (set due (last j) value) b ≡ due_at (j + 1) last cycles b
    go (yes e) = rw (e, get_or-set_same due (last j) value 0 inside) here
    go (no other) = get_or-set_other due (last j) b value 0 other ∙ so_far b ∙ sym (due_pass last cycles b j other)
