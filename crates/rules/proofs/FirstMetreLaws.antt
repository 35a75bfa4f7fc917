-- The first metre, 02 (v): a reading above 1 m and one from 1 m on, no reading larger for it, friction whole in 1/200 Pa, and slices below a cut.
use mathlib.Core.Path.{◌≡◌, refl, ◌∙◌, ap}
use mathlib.Core.Bool.{Bool, true, false}
use mathlib.Core.Logic.{⊎_elim}
use mathlib.Core.List.{List, ◌∷◌}
use Prim.Native.Nat.{ℕ, zero, suc, ◌+◌, ◌*◌, ◌-◌, ◌/◌, ◌<◌, ◌≤◌}
use native.Mathlib.Nat.{mul-le-mul_left, mul_right_comm}
use native.Mathlib.Omega.{arith}
use borrow.Author.Tests.{lt-ltb, le-ltb}
use Rattle.rules.specs.declared.Soil.{Soil}
use Rattle.rules.specs.declared.Pile.{Pile}
use Rattle.rules.specs.declared.Spot.{Spot}
use Rattle.rules.specs.Base.{pick}
use Rattle.rules.specs.Grades.{cut_depth}
use Rattle.rules.specs.Pieces.{Piece, piece, ends, walk, pieces_from, pieces}
use Rattle.rules.specs.Tables.{row_for, spot_of, weighed, friction_cell, friction_at, metre, with_first_metre}
use Rattle.rules.specs.Numbers.{friction_spot, table_friction, friction, slice_of, slice_each, shaft_slices}
use Rattle.rules.specs.Ranges.{ReadFromOneMetre}
use Rattle.rules.proofs.Basics.{split}

pub above_metre : (reading : ℕ → ℕ) (mid : ℕ) → mid < metre → with_first_metre reading mid ≡ reading metre * mid / metre
above_metre reading mid h = rw (lt-ltb mid metre h)

pub from_metre : (reading : ℕ → ℕ) (mid : ℕ) → metre ≤ mid → with_first_metre reading mid ≡ reading mid
from_metre reading mid h = rw (le-ltb mid metre h)

-- a bound of every reading still holds
pub first_metre_most : (reading : ℕ → ℕ) (mid n : ℕ) → ((m : ℕ) → reading m ≤ n) → with_first_metre reading mid ≤ n
first_metre_most reading mid n most =
    ⊎_elim
    (λ (h : mid < metre).
    let less : reading metre * mid ≤ reading metre * metre = mul-le-mul_left (reading metre) (omega arith) in
    rw (above_metre reading mid h) (omega (arith, less, most metre)))
    (λ (h : metre ≤ mid). rw (from_metre reading mid h) (most mid))
    (split mid metre)

-- the cells of a spot's row, weighed across: in tenths of a kPa
abbrev pub tenths_at : Spot → ℕ
tenths_at p = (10 - p.across) * friction_cell p.row p.column + p.across * friction_cell p.row (p.column + 1)

-- a spot that stands on a row, 1 m above the next, reads that row alone: 20,000 units for each tenth of a kPa
pub on_row : (p : Spot) → p.down ≡ 0 → p.span ≡ metre → friction_at p ≡ tenths_at p * 20000
unfolding friction_at weighed
on_row p d s = rw (d, s) (omega arith)

-- 10 of them for each half millimetre
pub ten_each : (tenths mid : ℕ) → tenths * 20000 * mid / metre ≡ tenths * mid * 10
ten_each tenths mid = rw (mul_right_comm tenths 20000 mid) (omega arith)

-- "It is still whole in 1/200 Pa.": no remainder is dropped, and at 1 m both rules agree
pub first_metre_whole : (s : Soil) (mid : ℕ) → mid ≤ metre → friction s mid * metre ≡ friction s metre * mid
unfolding friction spot_of row_for
first_metre_whole s mid h =
    let reading : ℕ → ℕ = table_friction s in
    let tenths : ℕ = tenths_at (friction_spot s metre) in
    let one : reading metre ≡ tenths * 20000 = on_row (friction_spot s metre) refl refl in
    let at_one : friction s metre ≡ tenths * 20000 = from_metre reading metre (omega arith) ∙ one in
    ⊎_elim
    (λ (l : mid < metre).
    let e : friction s mid ≡ tenths * mid * 10 = above_metre reading mid l ∙ ap (λ (x : ℕ). x * mid / metre) one ∙ ten_each tenths mid in
    rw (e, at_one, mul_right_comm tenths 20000 mid) (omega arith))
    (λ (l : metre ≤ mid). let e : mid ≡ metre = omega arith in rw e)
    (split mid metre)

-- A cut of 1 m or more that leaves the head in the ground, "7 also when the head is above the cut level": nothing of the shaft is read above 1 m
module _ (p : Pile) (c : 1000 ≤ cut_depth p.grade) (h : cut_depth p.grade ≤ p.head) where
  either_read : (b : Bool) (xs ys : List Piece) → ReadFromOneMetre p (slice_each p xs) → ReadFromOneMetre p (slice_each p ys) → ReadFromOneMetre p (slice_each p (pick b xs ys))
  either_read true xs ys x y = x
  either_read false xs ys x y = y

  walk_read : (g : ℕ → Soil) (n a t : ℕ) (s : Soil) → p.head ≤ a → ReadFromOneMetre p (slice_each p (walk g n a t s))
  unfolding walk slice_each slice_of
  walk_read g zero a t s l = (omega arith, tt)
  walk_read g (suc n) a t s l =
      either_read (ends t s (g (a + t))) (piece a t s ∷ walk g n (a + t) 1 (g (a + t))) (walk g n a (t + 1) s)
      (omega arith, walk_read g n (a + t) 1 (g (a + t)) (omega arith))
      (walk_read g n a (t + 1) s l)

  from_read : (g : ℕ → Soil) (a n : ℕ) → p.head ≤ a → ReadFromOneMetre p (slice_each p (pieces_from g a n))
  unfolding pieces_from slice_each
  from_read g a zero l = tt
  from_read g a (suc n) l = walk_read g n a 1 (g a) l

  pub cut_read : (g : ℕ → Soil) → ReadFromOneMetre p (shaft_slices g p)
  unfolding pieces
  cut_read g = from_read g p.head (p.tip - p.head) (omega arith)
