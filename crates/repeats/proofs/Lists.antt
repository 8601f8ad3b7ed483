-- Lists made by place and lists joined, one stretch after another.
-- Assumes nothing.
use mathlib.Core.Path.{◌≡◌, refl}
use mathlib.Core.List.{List, [], ◌∷◌, ◌++◌, map, append_assoc, append-nil}
use Prim.Native.Nat.{ℕ, zero, suc, ◌+◌, ◌<◌}
use native.Mathlib.Omega.{arith}
use lib.ListN.{length, get_or}
use Rattle.model.specs.Entries.{list_of, joined}
use Rattle.model.proofs.Entries.{list_of_cong}

module _ {A : Type 0} where
  pub list_of_append : (a b : ℕ) (f : ℕ → A) → list_of (a + b) f ≡ list_of a f ++ list_of b (λ i. f (a + i))
  unfolding list_of
  list_of_append zero b f =
      let e : 0 + b ≡ b = omega arith in
      rw e (list_of_cong b f (λ i. f (0 + i)) (λ i below. let z : 0 + i ≡ i = omega arith in rw z))
  list_of_append (suc a) b f =
      let e : suc a + b ≡ suc (a + b) = omega arith in
      rw (
        e,
        list_of_append a b (λ i. f (suc i)),
        list_of_cong b (λ i. f (suc (a + i))) (λ i. f (suc a + i)) (λ i below. let z : suc (a + i) ≡ suc a + i = omega arith in rw z),
      )

  pub joined_append : (a b : ℕ) (f : ℕ → List A) → joined (a + b) f ≡ joined a f ++ joined b (λ i. f (a + i))
  unfolding joined
  joined_append a zero f = let e : a + 0 ≡ a = omega arith in rw (e, append-nil (joined a f))
  joined_append a (suc b) f =
      let e : a + suc b ≡ suc (a + b) = omega arith in
      rw (e, joined_append a b f, append_assoc)

  pub list_of_map : {C : Type 0} (g : C → A) (l : List C) (d : C) (f : ℕ → A) → ((i : ℕ) → i < length l → f i ≡ g (get_or l i d)) → list_of (length l) f ≡ map g l
  unfolding list_of
  list_of_map g [] d f same = refl
  list_of_map g (x ∷ l) d f same = rw (same 0 (omega arith), list_of_map g l d (λ i. f (suc i)) (λ i below. same (suc i) (omega arith)))
