-- The slices of any rows and any pile record have some thickness and fit their bits.
use Rattle.rules.specs.declared.SandNumbers.{SandNumbers}
use Rattle.std.specs.Prelude.{Option}
use mathlib.Core.Bool.{Bool, true, false}
use mathlib.Core.List.{List, [], ◌∷◌}
use Prim.Native.Nat.{ℕ, ◌+◌, ◌-◌, ◌^◌, ◌<◌}
use native.Mathlib.Omega.{arith}
use Rattle.rules.specs.declared.Row.{Row}
use Rattle.rules.specs.declared.Pile.{Pile}
use Rattle.rules.specs.declared.Slice.{Slice}
use Rattle.rules.specs.Base.{pick, refuses}
use Rattle.rules.specs.Packed.{pile_of}
use Rattle.rules.specs.Ranges.{SlicesFit}
use Rattle.rules.specs.Ground.{soil_at, depth_of}
use Rattle.rules.specs.Pieces.{Piece, pieces_from, pieces}
use Rattle.rules.specs.Numbers.{mid_of, slice_of, slice_each, shaft_slices}
use Rattle.rules.specs.Answers.{held_slices}
use Rattle.rules.specs.Calculation.{held_slices_of}
use Rattle.rules.proofs.FitLaws.{Fit, all_fit}
use Rattle.rules.specs.Checks.{ground_checks}
use Rattle.norm_friction.proofs.Reading.{friction_most}
use Rattle.norm_factors.proofs.Laws.{factor_most}

slices_fit : (p : Pile) (e : ℕ) (cs : List Piece) → e < 2 ^ 16 → Fit e cs → SlicesFit (slice_each p cs)
unfolding slice_each slice_of
slices_fit p e [] h f = tt
slices_fit p e (c ∷ cs) h f =
    let most = friction_most c.soil (mid_of p c.top c.thickness) in
    let tenths = factor_most p.method c.soil.kind in
    (f.0, (omega (arith, f.2), (omega (arith, f.1), (omega arith, (omega arith, tt)))), slices_fit p e cs h f.3)

shown_fit : (b : Bool) (cs : List Slice) → SlicesFit cs → SlicesFit (pick b [] cs)
shown_fit true cs f = tt
shown_fit false cs f = f

pub rows_fit : (rs : List Row) (s : List ℕ) (extra : Option SandNumbers) → SlicesFit (held_slices_of rs (pile_of s) extra)
unfolding held_slices_of held_slices pieces pile_of
rows_fit rs s extra =
    let p : Pile = pile_of s in
    let g = soil_at rs in
    shown_fit (refuses (ground_checks g (depth_of rs) p extra)) (shaft_slices g p) (slices_fit p (p.head + (p.tip - p.head)) (pieces_from (soil_at rs) p.head (p.tip - p.head)) (omega arith) (all_fit (soil_at rs) p.head (p.tip - p.head)))
