-- Splits, the laws of `same`, which are all that the rest knows of a soil, and how many rows are read.
use mathlib.Core.Path.{◌≡◌, refl, sym, ◌∙◌, ap}
use mathlib.Core.Bool.{Bool, true, false, true≢false}
use mathlib.Core.Logic.{◌⊎◌, inl, inr}
use mathlib.Core.List.{List}
use Prim.Native.Nat.{ℕ, zero, suc, ◌+◌, ◌<◌, ◌≤◌}
use lib.ListN.{length}
use lib.Dec.{ltb, eqb}
use borrow.Author.Tests.{ltb-true, ltb-false, eqb-true, eq-eqb}
use Rattle.rules.specs.Base.{both}
use Rattle.rules.specs.Records.{row_size}
use Rattle.rules.specs.Packed.{rows_from}
use Rattle.rules.specs.Ground.{same}
use Rattle.rules.specs.declared.Soil.{Soil}

pub sure : (t : Bool) → (t ≡ true) ⊎ (t ≡ false)
sure true = inl refl
sure false = inr refl

pub split : (a b : ℕ) → (a < b) ⊎ (b ≤ a)
split a b = go (ltb a b) refl
  where
    go : (t : Bool) → ltb a b ≡ t → (a < b) ⊎ (b ≤ a)
    go true e = inl (ltb-true a b e)
    go false e = inr (ltb-false a b e)

pub both_left : (a b : Bool) → both a b ≡ true → a ≡ true
both_left true b e = refl
both_left false b e = e

pub both_right : (a b : Bool) → both a b ≡ true → b ≡ true
both_right true b e = e
both_right false b e = absurd (true≢false (sym e))

pub same_refl : (s : Soil) → same s s ≡ true
unfolding same
same_refl s = rw (eq-eqb s.kind s.kind refl, eq-eqb s.index s.index refl, eq-eqb s.saturation s.saturation refl)

pub same_eq : (s t : Soil) → same s t ≡ true → s ≡ t
unfolding same
same_eq s t e =
    let k : eqb s.kind t.kind ≡ true = both_left _ _ e in
    let r : both (eqb s.index t.index) (eqb s.saturation t.saturation) ≡ true = both_right (eqb s.kind t.kind) _ e in
    let p : s.kind ≡ t.kind = eqb-true _ _ k in
    let q : s.index ≡ t.index = eqb-true _ _ (both_left _ _ r) in
    let w : s.saturation ≡ t.saturation = eqb-true _ _ (both_right (eqb s.index t.index) _ r) in
    λ i. record { kind = p i; index = q i; saturation = w i }

pub same_of : (s t : Soil) → s ≡ t → same s t ≡ true
same_of s t e = ap (λ (x : Soil). same s x) (sym e) ∙ same_refl s

-- as many rows as are read
pub rows_length : (s : List ℕ) (at n : ℕ) → length (rows_from s at n) ≡ n
unfolding rows_from
rows_length s at zero = refl
rows_length s at (suc n) = ap suc (rows_length s (at + row_size) n)
