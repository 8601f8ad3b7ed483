-- Laws of bounds that nothing must cross: they stay so, one is passed, and a new one is found.
-- Assumes nothing.
use mathlib.Core.Path.{◌≡◌}
use mathlib.Core.List.{List}
use Prim.Native.Nat.{ℕ, suc, ◌<◌, ◌≤◌}
use native.Mathlib.Decide.{ℕ_discrete}
use native.Mathlib.Omega.{arith}
use lib.ListN.{set, length-set}
use lib.Seq.{get_or-set_same, get_or-set_other}
use Rattle.model.specs.Limits.{max_intervals}
use Rattle.workloads.specs.Arrays.{numbers_in}
use Rattle.refilling.specs.RefillTables.{Uncrossed}

-- crosses only fall
pub uncrossed_stay : {intervals low uncrossed : ℕ} {cross after next : List ℕ} → Uncrossed intervals low uncrossed cross next
    → ((b : ℕ) → numbers_in after b ≤ numbers_in cross b) → Uncrossed intervals low uncrossed after next
uncrossed_stay {uncrossed = uncrossed} {next = next} known falls =
    record {
      late = known.late;
      inside = known.inside;
      none = omega (arith, known.none, falls uncrossed);
      next_length = known.next_length;
      next_late = known.next_late;
      next_inside = known.next_inside;
      next_none = λ b h. omega (arith, known.next_none b h, falls (numbers_in next b));
    }

-- a later start
pub uncrossed_ahead : {intervals i uncrossed : ℕ} {cross next : List ℕ} → Uncrossed intervals i uncrossed cross next → i < uncrossed → Uncrossed intervals (suc i) uncrossed cross next
uncrossed_ahead known late =
    record {
      late = late;
      inside = known.inside;
      none = known.none;
      next_length = known.next_length;
      next_late = known.next_late;
      next_inside = known.next_inside;
      next_none = known.next_none;
    }

-- where the bound itself is passed, the next one
pub uncrossed_next : {intervals i uncrossed : ℕ} {cross next : List ℕ} → Uncrossed intervals i uncrossed cross next → i < intervals → uncrossed ≤ i
    → Uncrossed intervals (suc i) (numbers_in next uncrossed) cross next
uncrossed_next {uncrossed = uncrossed} known inside passed =
    record {
      late = omega (arith, known.late, known.next_late uncrossed (omega arith));
      inside = known.next_inside uncrossed (omega arith);
      none = known.next_none uncrossed (omega arith);
      next_length = known.next_length;
      next_late = known.next_late;
      next_inside = known.next_inside;
      next_none = known.next_none;
    }

-- a new one before it
pub uncrossed_before : {intervals low uncrossed nearer : ℕ} {cross next : List ℕ} → intervals ≤ max_intervals → Uncrossed intervals low uncrossed cross next → low ≤ nearer → nearer < uncrossed
    → numbers_in cross nearer ≡ 0 → Uncrossed intervals low nearer cross (set next nearer uncrossed)
uncrossed_before {intervals} {low} {uncrossed} {nearer} {cross} {next} few known late before none =
    record {
      late = late;
      inside = omega (arith, known.inside);
      none = none;
      next_length = rw length-set known.next_length;
      next_late = λ b h. further b h (ℕ_discrete b nearer);
      next_inside = λ b h. within b h (ℕ_discrete b nearer);
      next_none = λ b h. nothing b h (ℕ_discrete b nearer);
    }
  where
    here : numbers_in (set next nearer uncrossed) nearer ≡ uncrossed
    here = get_or-set_same next nearer uncrossed 0 (omega (arith, known.inside, known.next_length))

    further : (b : ℕ) → b < intervals → Dec (b ≡ nearer) → b < numbers_in (set next nearer uncrossed) b
    further b h (yes e) = rw (e, here) before
    further b h (no other) = rw (get_or-set_other next nearer b uncrossed 0 other) (known.next_late b h)

    within : (b : ℕ) → b < intervals → Dec (b ≡ nearer) → numbers_in (set next nearer uncrossed) b ≤ intervals
    within b h (yes e) = rw (e, here) known.inside
    within b h (no other) = rw (get_or-set_other next nearer b uncrossed 0 other) (known.next_inside b h)

    nothing : (b : ℕ) → b < intervals → Dec (b ≡ nearer) → numbers_in cross (numbers_in (set next nearer uncrossed) b) ≡ 0
    nothing b h (yes e) = rw (e, here) known.none
    nothing b h (no other) = rw (get_or-set_other next nearer b uncrossed 0 other) (known.next_none b h)
