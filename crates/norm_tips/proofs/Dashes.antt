-- What table 7.8 is read to at a spot: a dash where one has a weight, else R, from the four cells there.
use Rattle.std.specs.Prelude.{Option, None, Some, unwrap_or}
use mathlib.Core.Path.{◌≡◌, refl, sym, ◌∙◌}
use mathlib.Core.Bool.{true, false}
use Prim.Native.Nat.{ℕ, ◌+◌, ◌*◌, ◌-◌, ◌/◌, ◌≤◌, max}
use native.Mathlib.Omega.{arith}
use Rattle.rules.specs.declared.Spot.{Spot}
use Rattle.rules.specs.Bounds.{cell_bound, resistance_bound}
use Rattle.rules.specs.Tables.{tip_depths, tip_cell, kpa_of, dash_at, tip_at, weighed, spot_of}
use Rattle.rules.specs.Numbers.{pascals, tip_read}
use Rattle.norm_spots.specs.Spots.{InTable}
use Rattle.norm_spots.proofs.Weights.{weighed_le, shared}
use Rattle.norm_tips.specs.Cells.{dash_of, tip_read_at}
use Rattle.norm_tips.proofs.Printing.{cells}

-- a dash has no kPa
kpa_is : (c : Option ℕ) → unwrap_or c 0 ≡ kpa_of c
kpa_is None = refl
kpa_is (Some n) = refl

module _ (p : Spot) (a b c d : Option ℕ) (e : a ≡ tip_cell p.row p.column) (f : b ≡ tip_cell p.row (p.column + 1))
    (g : c ≡ tip_cell (p.row + 1) p.column) (h : d ≡ tip_cell (p.row + 1) (p.column + 1)) where
  dash_is : dash_of p a b c d ≡ dash_at p
  unfolding dash_of dash_at
  dash_is = rw (e, f, g, h)

  pub reads_dash : dash_of p a b c d ≡ true → (None ≡ tip_read_at p) × (pascals None ≤ resistance_bound)
  unfolding tip_read_at
  reads_dash t = let u : dash_at p ≡ true = sym dash_is ∙ t in (rw u, omega arith)

  pub reads_pascals : (r w : ℕ) → InTable 8 5 p → dash_of p a b c d ≡ false → w ≡ weighed p (unwrap_or a 0) (unwrap_or b 0) (unwrap_or c 0) (unwrap_or d 0)
      → r ≡ w * 100 / p.span → (Some r ≡ tip_read_at p) × (pascals (Some r) ≤ resistance_bound)
  unfolding tip_read_at tip_at
  reads_pascals r w t u i j =
      let v : dash_at p ≡ false = sym dash_is ∙ u in
      let k : r ≡ tip_at p = rw (j, i, kpa_is a, kpa_is b, kpa_is c, kpa_is d, e, f, g, h) in
      (rw (v, k), rw k (shared _ p.span (10 * cell_bound) 100 (weighed_le (λ i j. kpa_of (tip_cell i j)) 8 5 cell_bound p t cells)))

pub tip_resistance_read : (depth index l : ℕ) (p : Spot) (r : Option ℕ)
    → l ≡ max 100 index - 100 → p ≡ spot_of tip_depths 1000 8 5 depth l → r ≡ tip_read_at p → r ≡ tip_read depth index
unfolding tip_read_at tip_read
tip_resistance_read depth index l p r e f g = rw (g, f, e)
