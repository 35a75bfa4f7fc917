-- That each contract of the layer norm settles its reply.
use mathlib.Core.Path.{◌≡◌, sym, ◌∙◌}
use mathlib.Core.HLevel.{is_prop→PathP}
use mathlib.Core.List.{is_set}
use native.Mathlib.Nat.{eq_of_mul-eq-mul_right, ℕ_set}
use Rattle.rules.specs.Tables.{friction_depths, friction_rows, metre}
use Rattle.norm_columns.specs.declared.Column.{Column}
use Rattle.norm_spots.proofs.Rows.{in_table}
use Rattle.norm_friction_rows.specs.declared.Standing.{Standing}
use Rattle.norm_friction_rows.specs.Standings.{spot_at}
use Rattle.norm_friction_rows.proofs.Steps.{friction_deepens}
use Rattle.norm_friction.specs.declared.FrictionRows.{FrictionRows}
use Rattle.settled.proofs.Settled.{Settled}
use Rattle.norm_columns.proofs as norm_columns
use Rattle.norm_spots.proofs as norm_spots
use Rattle.norm_friction_rows.proofs as norm_friction_rows
use Rattle.norm_tip_rows.proofs as norm_tip_rows
use Rattle.norm_friction.proofs as norm_friction
use Rattle.norm_tips.proofs as norm_tips
use Rattle.norm_scales.proofs as norm_scales
use Rattle.norm_alphas.proofs as norm_alphas
use Rattle.norm_sand_caps.proofs as norm_sand_caps
use Rattle.norm_sand_tips.proofs as norm_sand_tips
use Rattle.norm_factors.proofs as norm_factors
use Rattle.norm_grades.proofs as norm_grades

pub past : Settled norm_columns.past.Kinds.ps norm_columns.past.Kinds.r norm_columns.past.Reads.Pre norm_columns.past.Reads.Learnt
past _ _ _ h g = cc

column : {r s : Column} → r.number ≡ s.number → r.across ≡ s.across → r ≡ s
column n a = λ i. record { number = n i; across = a i }

pub column_for : Settled norm_columns.column_for.Kinds.ps norm_columns.column_for.Kinds.r norm_columns.column_for.Reads.Pre norm_columns.column_for.Reads.Learnt
column_for _ _ _ h g = column (cc) (cc)

pub mean : Settled norm_columns.mean.Kinds.ps norm_columns.mean.Kinds.r norm_columns.mean.Reads.Pre norm_columns.mean.Reads.Learnt
mean _ _ _ h g = cc

standing : {r s : Standing} → r.row ≡ s.row → r.part ≡ s.part → r.whole ≡ s.whole → r ≡ s
standing n a w = λ i. record { row = n i; part = a i; whole = w i }

-- two rows of the table are some way apart
pub friction_row : Settled norm_friction_rows.friction_row.Kinds.ps norm_friction_rows.friction_row.Kinds.r norm_friction_rows.friction_row.Reads.Pre norm_friction_rows.friction_row.Reads.Learnt
friction_row c _ _ h g =
    let mid = c.args.0 in
    let far = (in_table friction_depths metre 11 friction_deepens 7 mid 0).weights.some in
    standing (h.row ∙ sym g.row) (eq_of_mul-eq-mul_right (spot_at mid).span far _ _ (h.part ∙ sym g.part)) (h.whole ∙ sym g.whole)

pub tip_spot : Settled norm_tip_rows.tip_spot.Kinds.ps norm_tip_rows.tip_spot.Kinds.r norm_tip_rows.tip_spot.Reads.Pre norm_tip_rows.tip_spot.Reads.Learnt
tip_spot _ _ _ h g = cc

pub weigh : Settled norm_spots.weigh.Kinds.ps norm_spots.weigh.Kinds.r norm_spots.weigh.Reads.Pre norm_spots.weigh.Reads.Learnt
weigh _ _ _ h g = cc

-- the rows are those printed, and so is the proof of it
table : {r s : FrictionRows} → r.cells ≡ s.cells → r ≡ s
table {r} {s} e = λ i. record { cells = e i; printed = is_prop→PathP (λ k. e k ≡ friction_rows) (λ k. is_set (is_set ℕ_set) (e k) friction_rows) r.printed s.printed i }

pub rows : Settled norm_friction.rows.Kinds.ps norm_friction.rows.Kinds.r norm_friction.rows.Reads.Pre norm_friction.rows.Reads.Learnt
rows _ _ _ h g = table (h ∙ sym g)

pub column_of : Settled norm_friction.column_of.Kinds.ps norm_friction.column_of.Kinds.r norm_friction.column_of.Reads.Pre norm_friction.column_of.Reads.Learnt
column_of _ _ _ h g = column (cc) (cc)

pub friction : Settled norm_friction.FrictionRows.friction.Kinds.ps norm_friction.FrictionRows.friction.Kinds.r norm_friction.FrictionRows.friction.Reads.Pre norm_friction.FrictionRows.friction.Reads.Learnt
friction _ _ _ h g = cc

pub tip_resistance : Settled norm_tips.tip_resistance.Kinds.ps norm_tips.tip_resistance.Kinds.r norm_tips.tip_resistance.Reads.Pre norm_tips.tip_resistance.Reads.Learnt
tip_resistance _ _ _ h g = cc

pub on_angles : Settled norm_scales.on_angles.Kinds.ps norm_scales.on_angles.Kinds.r norm_scales.on_angles.Reads.Pre norm_scales.on_angles.Reads.Learnt
on_angles _ _ _ h g = cc

pub on_ratios : Settled norm_scales.on_ratios.Kinds.ps norm_scales.on_ratios.Kinds.r norm_scales.on_ratios.Reads.Pre norm_scales.on_ratios.Reads.Learnt
on_ratios _ _ _ h g = cc

pub on_diameters : Settled norm_scales.on_diameters.Kinds.ps norm_scales.on_diameters.Kinds.r norm_scales.on_diameters.Reads.Pre norm_scales.on_diameters.Reads.Learnt
on_diameters _ _ _ h g = cc

pub on_depths : Settled norm_scales.on_depths.Kinds.ps norm_scales.on_depths.Kinds.r norm_scales.on_depths.Reads.Pre norm_scales.on_depths.Reads.Learnt
on_depths _ _ _ h g = cc

pub line_at : Settled norm_scales.line_at.Kinds.ps norm_scales.line_at.Kinds.r norm_scales.line_at.Reads.Pre norm_scales.line_at.Reads.Learnt
line_at _ _ _ h g = cc

pub alpha_1 : Settled norm_alphas.alpha_1.Kinds.ps norm_alphas.alpha_1.Kinds.r norm_alphas.alpha_1.Reads.Pre norm_alphas.alpha_1.Reads.Learnt
alpha_1 _ _ _ h g = cc

pub alpha_2 : Settled norm_alphas.alpha_2.Kinds.ps norm_alphas.alpha_2.Kinds.r norm_alphas.alpha_2.Reads.Pre norm_alphas.alpha_2.Reads.Learnt
alpha_2 _ _ _ h g = cc

pub alpha_3 : Settled norm_alphas.alpha_3.Kinds.ps norm_alphas.alpha_3.Kinds.r norm_alphas.alpha_3.Reads.Pre norm_alphas.alpha_3.Reads.Learnt
alpha_3 _ _ _ h g = cc

pub alpha_4 : Settled norm_alphas.alpha_4.Kinds.ps norm_alphas.alpha_4.Kinds.r norm_alphas.alpha_4.Reads.Pre norm_alphas.alpha_4.Reads.Learnt
alpha_4 _ _ _ h g = cc

pub sand_cap : Settled norm_sand_caps.sand_cap.Kinds.ps norm_sand_caps.sand_cap.Kinds.r norm_sand_caps.sand_cap.Reads.Pre norm_sand_caps.sand_cap.Reads.Learnt
sand_cap _ _ _ h g = cc

pub sand_resistance : Settled norm_sand_tips.sand_resistance.Kinds.ps norm_sand_tips.sand_resistance.Kinds.r norm_sand_tips.sand_resistance.Reads.Pre norm_sand_tips.sand_resistance.Reads.Learnt
sand_resistance _ _ _ h g = cc

pub factor : Settled norm_factors.factor.Kinds.ps norm_factors.factor.Kinds.r norm_factors.factor.Reads.Pre norm_factors.factor.Reads.Learnt
factor _ _ _ h g = cc

pub cut_depth : Settled norm_grades.cut_depth.Kinds.ps norm_grades.cut_depth.Kinds.r norm_grades.cut_depth.Reads.Pre norm_grades.cut_depth.Reads.Learnt
cut_depth _ _ _ h g = cc

pub below_cut : Settled norm_grades.below_cut.Kinds.ps norm_grades.below_cut.Kinds.r norm_grades.below_cut.Reads.Pre norm_grades.below_cut.Reads.Learnt
below_cut _ _ _ h g = cc

pub shift_of : Settled norm_grades.shift_of.Kinds.ps norm_grades.shift_of.Kinds.r norm_grades.shift_of.Reads.Pre norm_grades.shift_of.Reads.Learnt
shift_of _ _ _ h g = cc

pub depth_read : Settled norm_grades.depth_read.Kinds.ps norm_grades.depth_read.Kinds.r norm_grades.depth_read.Reads.Pre norm_grades.depth_read.Reads.Learnt
depth_read _ _ _ h g = cc
