-- What the printed columns of table 7.2 have, each by one computed test, and what one is read to.
use mathlib.Core.Path.{◌≡◌}
use mathlib.Core.List.{List, []}
use Prim.Native.Nat.{ℕ, ◌+◌, ◌*◌, ◌-◌, ◌/◌, ◌<◌, ◌≤◌, max}
use native.Mathlib.Nat.{mul-le-mul_right}
use native.Mathlib.Omega.{arith}
use lib.Dec.{leb, leb→le}
use lib.ListN.{get_or}
use Rattle.rules.specs.declared.OnScale.{OnScale}
use Rattle.rules.specs.Bounds.{cell_bound, weighed_bound, resistance_bound}
use Rattle.rules.specs.SandTips.{cap_depths, cap_columns, cap_cell, mean, on_scale, sand_cap}
use Rattle.norm_columns.proofs.Means.{weighed_most}
use Rattle.norm_spots.proofs.Rows.{grid}
use Rattle.norm_spots.proofs.Weights.{shared}
use Rattle.norm_scales.specs.Scales.{Marked}
use Rattle.norm_sand_caps.specs.Columns.{cap_at}

cells : (i j : ℕ) → i < 3 → j < 10 → cap_cell i j ≤ cell_bound
cells i j h l = leb→le _ _ (grid 3 10 (λ k m. leb (cap_cell k m) cell_bound) tt i j h l)

-- a column's two cells at a reading, weighed
module _ (columns : List (List ℕ)) (s : OnScale) (i w : ℕ) (e : columns ≡ cap_columns) (t : Marked 8 s) (h : i < 3)
    (l : w ≤ s.span * max (get_or (get_or columns i []) s.place 0) (get_or (get_or columns i []) (s.place + 1) 0)) where
  most : w ≤ s.span * cell_bound
  most = weighed_most _ _ _ _ _ (rw e at l) (cells i s.place h (omega arith)) (cells i (s.place + 1) h (omega arith))

  pub column_fits : w ≤ weighed_bound
  column_fits = omega (arith, most, mul-le-mul_right cell_bound t.span)

  -- in whole Pa
  pub column_read : w ≡ mean s (get_or (get_or columns i []) s.place 0) (get_or (get_or columns i []) (s.place + 1) 0)
      → (w * 1000 / s.span ≡ cap_at s i) × (w * 1000 / s.span ≤ resistance_bound)
  unfolding cap_at
  column_read f = (rw (f, e), shared w s.span cell_bound 1000 most)

pub cap_read : (kind depth i r : ℕ) (s : OnScale) → r ≡ cap_at s i → s ≡ on_scale cap_depths 1000 depth → i ≡ max 1 kind - 1 → r ≡ sand_cap kind depth
unfolding cap_at sand_cap
cap_read kind depth i r s e f g = let k : i ≡ kind - 1 = omega (arith, g) in rw (e, f, k)
