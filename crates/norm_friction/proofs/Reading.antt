-- Friction by 20,000ths of the way down and tenths across is that of the definition.
use mathlib.Core.Path.{◌≡◌, refl, sym, ◌∙◌, ap, ap₂}
use mathlib.Core.Logic.{⊎_elim}
use mathlib.Core.List.{List, []}
use Prim.Native.Nat.{ℕ, ◌+◌, ◌*◌, ◌-◌, ◌/◌, ◌<◌, ◌≤◌, min, max}
use native.Mathlib.Nat.{add-mul, mul_comm, mul-sub, mul_right_comm, eq_of_mul-eq-mul_right}
use native.Mathlib.Omega.{arith}
use lib.Dec.{leb, leb→le}
use lib.ListN.{get_or}
use Rattle.rules.specs.Bounds.{friction_bound}
use Rattle.rules.specs.Tables.{friction_depths, friction_rows, friction_cell, friction_weighed, friction_at, metre, with_first_metre, row_for, spot_of}
use Rattle.rules.specs.Numbers.{hundredths, friction_spot, table_friction, friction}
use Rattle.rules.specs.declared.Spot.{Spot}
use Rattle.rules.specs.declared.Soil.{Soil}
use Rattle.rules.proofs.Basics.{split}
use Rattle.rules.proofs.TableLaws.{column_whole}
use Rattle.rules.proofs.FirstMetreLaws.{above_metre, from_metre, first_metre_most, tenths_at, on_row, ten_each}
use Rattle.norm_columns.specs.declared.Column.{Column}
use Rattle.norm_columns.specs.Across.{Across}
use Rattle.norm_spots.specs.Spots.{InTable}
use Rattle.norm_spots.proofs.Rows.{grid, in_table}
use Rattle.norm_friction_rows.specs.declared.Standing.{Standing}
use Rattle.norm_friction_rows.specs.Standings.{spot_at, Stands}
use Rattle.norm_friction_rows.proofs.Steps.{friction_deepens}
use Rattle.norm_spots.proofs.Weights.{weighed_le, weighed_is, shared}
use Rattle.norm_friction.specs.Columns.{FrictionColumn, column_spot, column_reading, column_friction}

-- no cell is over 100 kPa
cells : (i j : ℕ) → i < 13 → j < 9 → friction_cell i j ≤ 100
cells i j h l = leb→le _ _ (grid 13 9 (λ k m. leb (friction_cell k m) 100) tt i j h l)

-- part of n, down of span: the same share
shares : (n part down span u l : ℕ) → part * span ≡ down * n
    → ((n - part) * u + part * l) * span ≡ ((span - down) * u + down * l) * n
shares n part down span u l e =
    let a : (n - part) * span ≡ (span - down) * n =
    mul_comm (n - part) span ∙ mul-sub span n part
    ∙ (rw (mul_comm span n, mul_comm span part, e, mul_comm (span - down) n, mul-sub n span down, mul_comm n down)) in
    let b : (n - part) * u * span ≡ (span - down) * u * n =
    mul_right_comm (n - part) u span ∙ ap (λ (x : ℕ). x * u) a ∙ mul_right_comm (span - down) n u in
    let c : part * l * span ≡ down * l * n = mul_right_comm part l span ∙ ap (λ (x : ℕ). x * l) e ∙ mul_right_comm down n l in
    rw (add-mul ((n - part) * u) (part * l) span, b, c, add-mul ((span - down) * u) (down * l) n)

-- a row's cells in a column and the next, weighed across
abbrev along : List (List ℕ) → ℕ → Column → ℕ
along rows i c = (10 - c.across) * get_or (get_or rows i []) c.number 0 + c.across * get_or (get_or rows i []) (c.number + 1) 0

-- a reading in a column at a mid-depth stands in the table
in_column : (c : Column) (mid : ℕ) → FrictionColumn c → InTable 11 7 (column_spot c mid)
in_column c mid h =
    let t : InTable 11 7 (spot_at mid) = in_table friction_depths metre 11 friction_deepens 7 mid 0 in
    record { row = t.row; column = h.last; weights = record { down = t.weights.down; some = t.weights.some; span = t.weights.span; across = h.tenths } }

-- a spot above 1 m is that of 1 m
at_metre : (mid : ℕ) → mid < metre → spot_at mid ≡ spot_at metre
unfolding spot_of
at_metre mid h = let clamped : max metre (min mid 70000) ≡ metre = omega arith in rw clamped

-- with no part of the way to the next row
upper_alone : (mid upper lower : ℕ) → (mid * 10 - 0) * upper + 0 * lower ≡ upper * mid * 10
upper_alone mid upper lower =
    let all : mid * 10 - 0 ≡ mid * 10 = omega arith in
    rw all (omega (arith, mul_right_comm mid 10 upper ∙ ap (λ (n : ℕ). n * 10) (mul_comm mid upper)))

-- above 1 m
first_metre_is : (mid : ℕ) (rows : List (List ℕ)) (st : Standing) (c : Column) (upper lower : ℕ)
    → rows ≡ friction_rows → Stands mid st → upper ≡ along rows st.row c → mid < metre
    → (st.whole - st.part) * upper + st.part * lower ≡ column_friction c mid
unfolding column_friction spot_of row_for
first_metre_is mid rows st c upper lower r t e h =
    let first : st.row ≡ 0 = t.row ∙ ap (λ (p : Spot). p.row) (at_metre mid h) in
    let none : st.part * (spot_at mid).span ≡ 0 = t.part ∙ ap (λ (p : Spot). p.down * 20000) (at_metre mid h) in
    let wide : (spot_at mid).span ≡ metre = ap (λ (p : Spot). p.span) (at_metre mid h) in
    let part : st.part ≡ 0 = omega (arith, rw wide at none) in
    let count : st.whole ≡ mid * 10 = omega (arith, t.whole) in
    let tenths : ℕ = tenths_at (column_spot c metre) in
    let one : upper ≡ tenths = e ∙ (rw (r, first)) in
    let due = above_metre (column_reading c) mid h ∙ ap (λ (x : ℕ). x * mid / metre) (on_row (column_spot c metre) refl refl) ∙ ten_each tenths mid in
    ap₂ (λ (n k : ℕ). (n - k) * upper + k * lower) count part ∙ upper_alone mid upper lower ∙ ap (λ (n : ℕ). n * mid * 10) one ∙ sym due

-- from 1 m on
table_is : (mid : ℕ) (rows : List (List ℕ)) (st : Standing) (c : Column) (upper lower : ℕ)
    → rows ≡ friction_rows → Stands mid st → upper ≡ along rows st.row c → lower ≡ along rows (st.row + 1) c → metre ≤ mid
    → (st.whole - st.part) * upper + st.part * lower ≡ column_friction c mid
unfolding column_friction
table_is mid rows st c upper lower r t e f h =
    let all : st.whole ≡ 20000 = omega (arith, t.whole) in
    let p : Spot = column_spot c mid in
    let u : upper ≡ along friction_rows p.row c = e ∙ (rw (r, t.row)) in
    let l : lower ≡ along friction_rows (p.row + 1) c = f ∙ (rw (r, t.row)) in
    ap (λ (n : ℕ). (n - st.part) * upper + st.part * lower) all
    ∙ eq_of_mul-eq-mul_right p.span (in_table friction_depths metre 11 friction_deepens 7 mid 0).weights.some _ _
    (shares 20000 st.part p.down p.span upper lower t.part
    ∙ ap (λ (x : ℕ). x * 20000) (weighed_is p _ _ _ _ upper lower u l) ∙ sym (column_whole mid p refl))
    ∙ sym (from_metre (column_reading c) mid h)

pub friction_is : (mid : ℕ) (rows : List (List ℕ)) (st : Standing) (c : Column) (upper lower : ℕ)
    → rows ≡ friction_rows → Stands mid st → upper ≡ along rows st.row c → lower ≡ along rows (st.row + 1) c
    → (st.whole - st.part) * upper + st.part * lower ≡ column_friction c mid
friction_is mid rows st c upper lower r t e f = ⊎_elim (first_metre_is mid rows st c upper lower r t e) (table_is mid rows st c upper lower r t e f) (split mid metre)

-- at every spot
spot_most : (p : Spot) → InTable 11 7 p → friction_at p ≤ friction_bound
unfolding friction_at
spot_most p t = shared (friction_weighed p) p.span 1000 20000 (weighed_le friction_cell 11 7 100 p t cells)

-- in every column and at every depth
pub column_most : (c : Column) (mid : ℕ) → FrictionColumn c → column_friction c mid ≤ friction_bound
unfolding column_friction
column_most c mid h = first_metre_most (column_reading c) mid friction_bound (λ m. spot_most (column_spot c m) (in_column c m h))

-- for every soil and depth
pub friction_most : (s : Soil) (mid : ℕ) → friction s mid ≤ friction_bound
unfolding friction
friction_most s mid =
    first_metre_most (table_friction s) mid friction_bound
    (λ m. spot_most (friction_spot s m) (in_table friction_depths metre 11 friction_deepens 7 m (hundredths s)))

-- a soil's friction is read in its column
soil_spot : (s : Soil) (c : Column) (mid : ℕ) → Across 7 (hundredths s) c → column_spot c mid ≡ friction_spot s mid
unfolding spot_of
soil_spot s c mid k = rw (k.across, k.number)

pub soil_column : (s : Soil) (c : Column) (mid : ℕ) → Across 7 (hundredths s) c → column_friction c mid ≡ friction s mid
unfolding column_friction friction
soil_column s c mid k = λ i. with_first_metre (λ m. friction_at (soil_spot s c m k i)) mid
