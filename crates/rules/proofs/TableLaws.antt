-- A table's rule, by one computed test over its rows; and friction is whole in 1/200 Pa.
use mathlib.Core.Path.{◌≡◌, refl, sym, subst}
use mathlib.Core.Bool.{Bool, true, false}
use mathlib.Core.Logic.{◌⊎◌, inl, inr, ⊎_elim}
use mathlib.Core.List.{List}
use Prim.Native.Nat.{ℕ, zero, suc, ◌+◌, ◌*◌, ◌-◌, ◌/◌, ◌<◌, ◌≤◌, min, max}
use native.Mathlib.Omega.{arith}
use lib.Dec.{T, eqb, eqb→eq}
use lib.ListN.{get_or}
use borrow.Author.Tests.{lt-ltb, le-ltb}
use Rattle.rules.specs.declared.Soil.{Soil}
use Rattle.rules.specs.declared.Spot.{Spot}
use Rattle.rules.specs.Base.{both, either}
use Rattle.rules.specs.Tables.{friction_depths, row_for, spot_of, friction_weighed, friction_at, metre}
use Rattle.rules.specs.Numbers.{friction_spot, table_friction, friction}
use Rattle.rules.proofs.Basics.{split}
use Rattle.rules.proofs.FirstMetreLaws.{from_metre}

-- a test at every number below n
abbrev pub every : ℕ → (ℕ → Bool) → Bool
every zero f = true
every (suc n) f = both (f n) (every n f)

pub both_left : (a b : Bool) → T (both a b) → T a
both_left true b t = tt
both_left false b t = t

pub both_right : (a b : Bool) → T (both a b) → T b
both_right true b t = t
both_right false b t = absurd t

pub at : (n : ℕ) (f : ℕ → Bool) → T (every n f) → (i : ℕ) → i < n → T (f i)
at zero f t i h = absurd (omega arith)
at (suc n) f t i h =
    ⊎_elim (λ (l : i < n). at n f (both_right (f n) (every n f) t) i l)
    (λ (l : n ≤ i). let e : n ≡ i = omega arith in subst (λ (k : ℕ). T (f k)) e (both_left (f n) (every n f) t))
    (split i n)

pub row_stops : (ds : List ℕ) (unit n i d : ℕ) → d < get_or ds (i + 1) 0 * unit → row_for ds unit (suc n) i d ≡ i
unfolding row_for
row_stops ds unit n i d h = rw (lt-ltb d (get_or ds (i + 1) 0 * unit) h)

pub row_goes : (ds : List ℕ) (unit n i d : ℕ) → get_or ds (i + 1) 0 * unit ≤ d → row_for ds unit (suc n) i d ≡ row_for ds unit n (i + 1) d
unfolding row_for
row_goes ds unit n i d h = rw (le-ltb d (get_or ds (i + 1) 0 * unit) h)

-- the row found is none past the last but one
pub row_le : (ds : List ℕ) (unit n i d : ℕ) → row_for ds unit n i d ≤ i + n
unfolding row_for
row_le ds unit zero i d = omega arith
row_le ds unit (suc n) i d =
    ⊎_elim (λ (h : d < get_or ds (i + 1) 0 * unit). rw (row_stops ds unit n i d h) (omega arith))
    (λ (h : get_or ds (i + 1) 0 * unit ≤ d). rw (row_goes ds unit n i d h) (omega (arith, row_le ds unit n (i + 1) d)))
    (split d (get_or ds (i + 1) 0 * unit))

-- rows of table 7.3 lie 1, 2 or 5 m apart: 2,000, 4,000 or 10,000 half millimetres
abbrev apart : ℕ → ℕ
apart i = (get_or friction_depths (i + 1) 0 - get_or friction_depths i 0) * metre

divides : (n w : ℕ) → T (either (eqb n 2000) (either (eqb n 4000) (eqb n 10000))) → w * 20000 / n * n ≡ w * 20000
divides n w t = ⊎_elim (λ (e : n ≡ 2000). rw e (omega arith)) (λ (r : (n ≡ 4000) ⊎ (n ≡ 10000)). ⊎_elim (λ (e : n ≡ 4000). rw e (omega arith)) (λ (e : n ≡ 10000). rw e (omega arith)) r) (which (eqb n 2000) (eqb n 4000) refl refl t)
  where
    which : (a b : Bool) → eqb n 2000 ≡ a → eqb n 4000 ≡ b → T (either a (either b (eqb n 10000))) → (n ≡ 2000) ⊎ ((n ≡ 4000) ⊎ (n ≡ 10000))
    which true b e f t = inl (eqb→eq n 2000 (subst T (sym e) tt))
    which false true e f t = inr (inl (eqb→eq n 4000 (subst T (sym f) tt)))
    which false false e f t = inr (inr (eqb→eq n 10000 t))

-- "Friction is kept in units of 1/200 Pa, in which it is always whole.": no remainder is dropped, at a mid-depth and in any column
pub column_whole : (mid : ℕ) (p : Spot) → p.span ≡ (spot_of friction_depths metre 11 7 mid 0).span → friction_at p * p.span ≡ friction_weighed p * 20000
unfolding friction_at spot_of
column_whole mid p e =
    let i : ℕ = (spot_of friction_depths metre 11 7 mid 0).row in
    let t = at 12 (λ k. either (eqb (apart k) 2000) (either (eqb (apart k) 4000) (eqb (apart k) 10000))) tt i (omega (arith, row_le friction_depths metre 11 0 (max metre (min mid 70000)))) in
    divides p.span (friction_weighed p) (rw e t)

pub friction_whole : (s : Soil) (mid : ℕ) → metre ≤ mid → friction s mid * (friction_spot s mid).span ≡ friction_weighed (friction_spot s mid) * 20000
unfolding friction spot_of
friction_whole s mid h = rw (from_metre (table_friction s) mid h) (column_whole mid (friction_spot s mid) refl)
