-- What every list of pieces is like: thicknesses add up, and each piece fits its fields.
use mathlib.Core.Path.{◌≡◌, refl, ◌∙◌, ap}
use mathlib.Core.Bool.{Bool, true, false}
use mathlib.Core.List.{List, [], ◌∷◌}
use Prim.Native.Nat.{ℕ, zero, suc, ◌+◌, ◌-◌, ◌<◌, ◌≤◌}
use native.Mathlib.Omega.{arith}
use lib.Dec.{eqb}
use borrow.Author.Tests.{eqb-false}
use Rattle.rules.specs.Base.{pick, either, neg}
use Rattle.rules.specs.Limits.{slice_thickness}
use Rattle.rules.specs.Ground.{same}
use Rattle.rules.specs.Pieces.{Piece, piece, ends, walk, pieces_from, pieces}
use Rattle.rules.specs.Numbers.{slice_of, slice_each, thickness_sum}
use Rattle.rules.specs.declared.Soil.{Soil}
use Rattle.rules.specs.declared.Pile.{Pile}

abbrev pub thick_sum : List Piece → ℕ
thick_sum [] = 0
thick_sum (c ∷ cs) = c.thickness + thick_sum cs

pick_sum : (t : Bool) (xs ys : List Piece) (n : ℕ) → thick_sum xs ≡ n → thick_sum ys ≡ n → thick_sum (pick t xs ys) ≡ n
pick_sum true xs ys n p q = p
pick_sum false xs ys n p q = q

walk_sum : (g : ℕ → Soil) (n a t : ℕ) (s : Soil) → thick_sum (walk g n a t s) ≡ t + n
unfolding walk
walk_sum g zero a t s = omega arith
walk_sum g (suc n) a t s =
    let i : thick_sum (walk g n (a + t) 1 (g (a + t))) ≡ 1 + n = walk_sum g n (a + t) 1 (g (a + t)) in
    let j : thick_sum (walk g n a (t + 1) s) ≡ t + 1 + n = walk_sum g n a (t + 1) s in
    let x : t + thick_sum (walk g n (a + t) 1 (g (a + t))) ≡ t + suc n = omega arith in
    let y : thick_sum (walk g n a (t + 1) s) ≡ t + suc n = omega arith in
    pick_sum (ends t s (g (a + t))) (piece a t s ∷ walk g n (a + t) 1 (g (a + t))) (walk g n a (t + 1) s) (t + suc n) x y

from_sum : (g : ℕ → Soil) (a n : ℕ) → thick_sum (pieces_from g a n) ≡ n
unfolding pieces_from
from_sum g a zero = refl
from_sum g a (suc n) = let e : 1 + n ≡ suc n = omega arith in walk_sum g n a 1 (g a) ∙ e

pub adds_up : (g : ℕ → Soil) (head tip : ℕ) → thick_sum (pieces g head tip) ≡ tip - head
unfolding pieces
adds_up g head tip = from_sum g head (tip - head)

-- each piece has 1 to 2,000 mm and ends at e or above
abbrev pub Fit : ℕ → List Piece → Type 0
Fit e [] = Unit {0}
Fit e (c ∷ cs) = (0 < c.thickness) × (c.thickness ≤ slice_thickness) × (c.top + c.thickness ≤ e) × Fit e cs

pick_fit : (t : Bool) (xs ys : List Piece) (e : ℕ) → Fit e xs → (t ≡ false → Fit e ys) → Fit e (pick t xs ys)
pick_fit true xs ys e p q = p
pick_fit false xs ys e p q = q refl

not_full : (t : ℕ) (b : Bool) → t ≤ slice_thickness → either (eqb t slice_thickness) b ≡ false → t < slice_thickness
not_full t b h e = let n : t ≡ slice_thickness → ⊥ = eqb-false t slice_thickness (left (eqb t slice_thickness) b e) in omega (arith, n)
  where
    left : (a b : Bool) → either a b ≡ false → a ≡ false
    left true b e = e
    left false b e = refl

walk_fit : (g : ℕ → Soil) (n a t : ℕ) (s : Soil) (e : ℕ) → 0 < t → t ≤ slice_thickness → a + t + n ≡ e → Fit e (walk g n a t s)
unfolding walk
walk_fit g zero a t s e p h q = (p, h, omega arith, tt)
walk_fit g (suc n) a t s e p h q =
    pick_fit (ends t s (g (a + t))) _ _ e
    (p, h, omega arith, walk_fit g n (a + t) 1 (g (a + t)) e (omega arith) (omega arith) (omega arith))
    (λ x. let l : t < slice_thickness = not_full t (neg (same s (g (a + t)))) h x in walk_fit g n a (t + 1) s e (omega arith) (omega arith) (omega arith))

pub all_fit : (g : ℕ → Soil) (a n : ℕ) → Fit (a + n) (pieces_from g a n)
unfolding pieces_from
all_fit g a zero = tt
all_fit g a (suc n) = walk_fit g n a 1 (g a) (a + suc n) (omega arith) (omega arith) (omega arith)

-- of slices, as of the pieces that they are cut from
slice_sum : (p : Pile) (cs : List Piece) → thickness_sum (slice_each p cs) ≡ thick_sum cs
unfolding slice_each slice_of
slice_sum p [] = refl
slice_sum p (c ∷ cs) = ap (λ (n : ℕ). c.thickness + n) (slice_sum p cs)

-- "Slice thicknesses add up to tip less head."
pub slices_add_up : (g : ℕ → Soil) (p : Pile) → thickness_sum (slice_each p (pieces g p.head p.tip)) ≡ p.tip - p.head
slices_add_up g p = slice_sum p (pieces g p.head p.tip) ∙ adds_up g p.head p.tip
