-- Pieces of text put into a buffer one after another are one longer piece.
-- Assumes nothing.
use mathlib.Core.Path.{◌≡◌, refl, sym, ◌∙◌, ap}
use mathlib.Core.List.{List, [], ◌∷◌, ◌++◌}
use Prim.Native.Nat.{ℕ, zero, suc, ◌+◌, ◌*◌, ◌≤◌}
use native.Mathlib.Omega.{arith}
use mathlib.Core.List.{append_assoc, append-nil}
use lib.ListN.{length, get_or, set, length-append}
use lib.Seq.{length-sets, set_out}
use Rattle.model.specs.Entries.{encode_each, joined}
use Rattle.writing.proofs.Stores.{sets_after}
use Rattle.model.proofs.Joined.{joined_next}
use Rattle.listing_lines.specs.Appending.{Appended}

module _ (before : List ℕ) (place : ℕ) where
  pub appended_none : Appended before place [] 0 before place
  appended_none = record { after_is = refl; next_is = omega arith; few = omega arith }

  pub appended_one : (byte : ℕ) → Appended before place (byte ∷ []) 1 (set before place byte) (place + 1)
  appended_one byte = record { after_is = refl; next_is = omega arith; few = omega arith }

  -- past the end nothing is put
  pub appended_past : (byte : ℕ) → length before ≤ place → Appended before place (byte ∷ []) 1 before (place + 1)
  appended_past byte past =
      record { after_is = sym (set_out before place byte past); next_is = omega arith; few = omega arith }

  module _ {bytes : List ℕ} {most : ℕ} {after : List ℕ} {next : ℕ} (put : Appended before place bytes most after next) where
    -- the buffer keeps its length
    pub same_room : length after ≡ length before
    same_room = rw put.after_is (length-sets before place bytes)

    -- the next place lies within the room that was asked for
    pub next_most : next ≤ place + most
    next_most = omega (arith, put.next_is, put.few)

    pub appended_then : {more : List ℕ} {others : ℕ} {last : List ℕ} {end : ℕ} → Appended after next more others last end
        → Appended before place (bytes ++ more) (most + others) last end
    appended_then {more} {others} {last} {end} then =
        let both = length-append bytes more in
        record {
          after_is = then.after_is ∙ rw put.after_is (sets_after before place next bytes more put.next_is);
          next_is = omega (arith, put.next_is, then.next_is);
          few = omega (arith, put.few, then.few);
        }

    -- the same bytes, with more room asked for
    pub appended_as : (same : List ℕ) (room : ℕ) → bytes ≡ same → most ≤ room → Appended before place same room after next
    appended_as same room e fits =
        rw (← e) (record { after_is = put.after_is; next_is = put.next_is; few = omega (arith, put.few) })

-- the loop over pieces that ask for the same room each
module _ (before : List ℕ) (place : ℕ) (piece : ℕ → List ℕ) (most : ℕ) where
  pub pieces_none : Appended before place (joined 0 piece) (most * 0) before place
  unfolding joined
  pieces_none = appended_as before place (appended_none before place) [] (most * 0) refl (omega arith)

  pub pieces_next : (i : ℕ) {after : List ℕ} {next : ℕ} → Appended before place (joined i piece) (most * i) after next
      → {last : List ℕ} {end : ℕ} → Appended after next (piece i) most last end
      → Appended before place (joined (i + 1) piece) (most * (i + 1)) last end
  pieces_next i put then =
      appended_as before place (appended_then before place put then) (joined (i + 1) piece) (most * (i + 1))
      (sym (joined_next i piece)) (omega arith)

  -- after the last piece
  pub pieces_whole : (i : ℕ) {after : List ℕ} {next : ℕ} → Appended before place (joined i piece) (most * i) after next
      → (count : ℕ) → i ≤ count → count ≤ i
      → (bytes : List ℕ) (room : ℕ) → joined count piece ≡ bytes → most * count ≤ room → Appended before place bytes room after next
  pieces_whole i put count low high bytes room are fits =
      let e : count ≡ i = omega arith in
      appended_as before place put bytes room (rw (← e) are) (rw (← e) fits)

-- the pieces of a list's elements, one after another
joined_first : (n : ℕ) (f : ℕ → List ℕ) → joined (suc n) f ≡ f 0 ++ joined n (λ i. f (suc i))
unfolding joined
joined_first zero f = sym (append-nil (f 0))
joined_first (suc n) f = ap (λ (l : List ℕ). l ++ f (suc n)) (joined_first n f) ∙ append_assoc (f 0) (joined n (λ i. f (suc i))) (f (suc n))

pub joined_each : (piece : ℕ → List ℕ) (xs : List ℕ) → joined (length xs) (λ i. piece (get_or xs i 0)) ≡ encode_each piece xs
unfolding joined encode_each
joined_each piece [] = refl
joined_each piece (x ∷ xs) =
    joined_first (length xs) (λ i. piece (get_or (x ∷ xs) i 0)) ∙ ap (λ (l : List ℕ). piece x ++ l) (joined_each piece xs)

pub each_byte : (xs : List ℕ) → encode_each (λ byte. byte ∷ []) xs ≡ xs
unfolding encode_each
each_byte [] = refl
each_byte (x ∷ xs) = ap (λ (l : List ℕ). x ∷ l) (each_byte xs)
