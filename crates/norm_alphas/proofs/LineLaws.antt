-- What the printed table 7.7 has, each by one computed test, and how large what is read of it gets.
use mathlib.Core.Path.{◌≡◌}
use mathlib.Core.List.{List, []}
use Prim.Native.Nat.{ℕ, ◌+◌, ◌*◌, ◌-◌, ◌/◌, ◌<◌, ◌≤◌, max}
use native.Mathlib.Nat.{mul-le-mul, mul_assoc}
use native.Mathlib.Omega.{arith}
use lib.Dec.{leb, leb→le}
use lib.ListN.{get_or}
use Rattle.rules.specs.declared.OnScale.{OnScale}
use Rattle.rules.specs.Bounds.{cell_bound, weighed_bound}
use Rattle.rules.specs.SandTips.{sand_lines, sand_cell, mean, at_angle, of_tenths, of_hundredths}
use Rattle.norm_columns.proofs.Means.{weighed_most}
use Rattle.norm_spots.proofs.Rows.{grid}
use Rattle.norm_spots.proofs.Weights.{shared}
use Rattle.norm_scales.specs.Scales.{Marked}

cells : (i j : ℕ) → i < 14 → j < 9 → sand_cell i j ≤ cell_bound
cells i j h l = leb→le _ _ (grid 14 9 (λ k m. leb (sand_cell k m) cell_bound) tt i j h l)

-- a cell times the parts between two marks
pub fits : (w : ℕ) (s : OnScale) (m : ℕ) → Marked m s → w ≤ s.span * cell_bound → w ≤ weighed_bound
fits w s m t h = let c : cell_bound ≤ cell_bound = omega arith in omega (arith, mul-le-mul t.span c)

-- a line's two cells at a reading, weighed
pub line_read : (lines : List (List ℕ)) (s : OnScale) (i r : ℕ) → lines ≡ sand_lines → Marked 7 s → i < 14
    → r ≡ mean s (get_or (get_or lines i []) s.place 0) (get_or (get_or lines i []) (s.place + 1) 0)
    → r ≤ s.span * max (get_or (get_or lines i []) s.place 0) (get_or (get_or lines i []) (s.place + 1) 0)
    → (r ≡ at_angle s i) × (r ≤ s.span * cell_bound)
unfolding at_angle
line_read lines s i r e t h f l =
    (rw (f, e), weighed_most _ _ _ _ _ (rw e at l) (cells i s.place h (omega arith)) (cells i (s.place + 1) h (omega arith)))

pub tenths_are : (s : OnScale) (i w : ℕ) → w ≡ at_angle s i → w ≤ s.span * cell_bound → (w * 1000 / s.span ≡ of_tenths s i) × (w * 1000 / s.span ≤ cell_bound * 1000)
unfolding of_tenths
tenths_are s i w e h = (rw e, shared w s.span cell_bound 1000 h)

module _ (s m : OnScale) (first upper lower w : ℕ) (u : upper ≡ at_angle s (first + m.place)) (l : lower ≡ at_angle s (first + m.place + 1))
    (e : w ≡ (m.span - m.past) * upper + m.past * lower) where
  pub hundredths_are : w ≤ m.span * (s.span * cell_bound) → let r = w * 100 / (m.span * s.span) in (r ≡ of_hundredths s first m) × (r ≤ cell_bound * 100)
  unfolding of_hundredths
  hundredths_are h = (rw (e, u, l), shared w (m.span * s.span) cell_bound 100 (rw mul_assoc h))
