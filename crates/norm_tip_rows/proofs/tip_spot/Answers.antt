-- The clamped depth, its row by whole metres, its column and the depths of the rows around it are the fields of the definition's spot.
use Rattle.std.proofs.Common.{◌≡◌, ℕ, ◌*◌, refl, sym, subst, ◌∙◌, ap, arith}
use Rattle.rules.specs.Tables.{tip_depths, row_for}
use Rattle.norm_spots.specs.Spots.{Between, Clamped, InTable}
use Rattle.norm_spots.proofs.Rows.{by_metre, clamped, found, in_table, spot_is}
use Rattle.norm_tip_rows.proofs.Rules.{tip_deepens}
use Rattle.norm_tip_rows.proofs.tip_spot.Goals as goal
use Rattle.norm_tip_rows.proofs.tip_spot.Goals.{After-tip_row-row}

clamp : (c : After-tip_row-row) → Clamped tip_depths 1000 8 c.args.depth c.clamp-read.result
clamp c = clamped tip_depths 1000 8 tip_deepens _ 3000 40000 _ refl refl c.clamp-read.ensures

row : (c : After-tip_row-row) → c.tip_row-row.result ≡ row_for tip_depths 1000 8 0 c.clamp-read.result
row c = c.tip_row-row.ensures ∙ sym (by_metre tip_depths 1000 8 0 c.clamp-read.result (omega arith))

-- the depth read stands between that row, one of nine, and the next
between : (c : After-tip_row-row) → Between tip_depths 1000 0 8 c.clamp-read.result c.tip_row-row.result
between c = let k = clamp c in found tip_depths 1000 8 _ _ k.low k.high (row c)

pub tip_row_depth-above-requires : goal.tip_row_depth-above-requires
tip_row_depth-above-requires c = omega (arith, (between (goal.at.tip_row_depth-above-requires c).After-tip_row-row).last)

pub overflow_add-row : goal.overflow_add-row
overflow_add-row c = omega (arith, (between (goal.at.overflow_add-row c).After-tip_row-row).last)

pub tip_row_depth-below-requires : goal.tip_row_depth-below-requires
tip_row_depth-below-requires c = omega (arith, (between (goal.at.tip_row_depth-below-requires c).After-tip_row-row).last)

pub overflow_sub-result : goal.overflow_sub-result
overflow_sub-result c = omega (arith, (between (goal.at.overflow_sub-result c).After-tip_row-row).low, c.tip_row_depth-above.ensures)

pub overflow_sub-result-2 : goal.overflow_sub-result-2
overflow_sub-result-2 c =
    let b = between (goal.at.overflow_sub-result-2 c).After-tip_row-row in
    omega (arith, b.low, b.high, c.tip_row_depth-above.ensures, c.tip_row_depth-below.ensures)

pub returns : goal.returns
returns c =
    let row_found = (goal.at.returns c).After-tip_row-row in
    let e =
    spot_is tip_depths 1000 8 5 c.args.depth c.args.q _ _ _ _ _ (clamp row_found) (row row_found) c.column_for-col.ensures
    (ap (λ (x : ℕ). x * 1000) c.tip_row_depth-above.ensures) (ap (λ (x : ℕ). x * 1000) c.tip_row_depth-below.ensures) in
    (e, subst (InTable 8 5) (sym e) (in_table tip_depths 1000 8 tip_deepens 5 c.args.depth c.args.q))
