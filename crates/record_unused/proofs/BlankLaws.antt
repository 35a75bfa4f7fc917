-- Bytes joined bit by bit are zero where all of them are.
use mathlib.Core.Path.{◌≡◌, refl, sym, ◌∙◌}
use mathlib.Core.Bool.{Bool, true, false, true≢false}
use mathlib.Core.List.{List, [], ◌∷◌}
use Prim.Native.Nat.{ℕ}
use native.Mathlib.Omega.{arith}
use borrow.Author.Tests.{eq-eqb, ne_eqb, eqb-true}
use lib.Bits.{bit_or, and_le_l, and_le_r, or_add_and}
use lib.Dec.{eqb}
use Rattle.std.proofs.Common.{fold}
use Rattle.rules.specs.Base.{both, all_zero}

-- two bytes
none_of : (a b : ℕ) → bit_or a b ≡ 0 → (a ≡ 0) × (b ≡ 0)
none_of a b e =
    let l = and_le_l a b in
    let r = and_le_r a b in
    (omega (arith, or_add_and a b), omega (arith, or_add_and a b))

or_none : (a b : ℕ) → eqb (bit_or a b) 0 ≡ both (eqb a 0) (eqb b 0)
or_none a b = go (eqb a 0) (eqb b 0) refl refl
  where
    go : (s t : Bool) → eqb a 0 ≡ s → eqb b 0 ≡ t → eqb (bit_or a b) 0 ≡ both s t
    go true true e f = rw (eqb-true a 0 e, eqb-true b 0 f)
    go true false e f = ne_eqb (bit_or a b) 0 (λ (h : bit_or a b ≡ 0). true≢false (sym (eq-eqb b 0 (none_of a b h).1) ∙ f))
    go false t e f = ne_eqb (bit_or a b) 0 (λ (h : bit_or a b ≡ 0). true≢false (sym (eq-eqb a 0 (none_of a b h).0) ∙ e))

-- and all, joined to a byte
joined_to : (a : ℕ) (s : List ℕ) → eqb (fold bit_or a s) 0 ≡ both (eqb a 0) (all_zero s)
unfolding all_zero
joined_to a [] = both_one (eqb a 0)
  where
    both_one : (t : Bool) → t ≡ both t true
    both_one true = refl
    both_one false = refl
joined_to a (b ∷ s) = joined_to (bit_or a b) s ∙ rw (or_none a b) (both_assoc (eqb a 0) (eqb b 0) (all_zero s))
  where
    both_assoc : (a b c : Bool) → both (both a b) c ≡ both a (both b c)
    both_assoc true b c = refl
    both_assoc false b c = refl

pub joined : (s : List ℕ) → eqb (fold bit_or 0 s) 0 ≡ all_zero s
joined s = joined_to 0 s
