-- The slices of a shaft with their friction and factor, R under the tip, and the six roundings.
use Rattle.rules.specs.declared.SandNumbers.{SandNumbers}
use Rattle.std.specs.Prelude.{Bool, true, false, List, [], ◌∷◌, ℕ, ◌+◌, ◌*◌, ◌-◌, ◌/◌, max, ltb, leb, eqb, Option, None, Some}
use Rattle.rules.specs.declared.Soil.{Soil}
use Rattle.rules.specs.declared.Pile.{Pile}
use Rattle.rules.specs.declared.Slice.{Slice}
use Rattle.rules.specs.declared.Spot.{Spot}
use Rattle.rules.specs.Base.{pick, both, neg}
use Rattle.rules.specs.Grades.{cut_depth, as_read}
use Rattle.rules.specs.Pieces.{Piece, pieces}
use Rattle.rules.specs.Tables.{spot_in, friction_depths, friction_rows, tip_depths, tip_rows, friction_at, metre, with_first_metre, tip_at, dash_at}
use Rattle.rules.specs.SandTips.{sand_resistance}

-- kinds 1 to 3
abbrev pub sand : Soil → Bool
sand s = leb s.kind 3

-- "Kinds 1, 2, 3 take columns 0.2, 0.3, 0.4. Kinds 4 to 6 go by liquidity index; below 0.20 the 0.2 column.": hundredths right of column 0.2;
-- an index is stored "in hundredths plus 100", so that column stands at 120
abbrev pub hundredths : Soil → ℕ
hundredths s = pick (sand s) ((s.kind - 1) * 10) (max 120 s.index - 120)

-- "at the slice's mid-depth, which may fall on half a millimetre": in half millimetres, as read. Depths reach the tables only through mid_of
-- and tip_of, and through tip_from_cut; every other depth stays "measured from natural ground".
abbrev pub mid_of : Pile → ℕ → ℕ → ℕ
mid_of p top thickness = as_read p.grade 2 (top + top + thickness)

-- "at the tip depth": in millimetres, as read
abbrev pub tip_of : Pile → ℕ
tip_of p = as_read p.grade 1 p.tip

-- 02 (iv): "Here h is the tip depth, less the cut if there is one."
abbrev pub tip_from_cut : Pile → ℕ
tip_from_cut p = p.tip - cut_depth p.grade

abbrev pub friction_spot : Soil → ℕ → Spot
friction_spot s mid = spot_in friction_depths friction_rows metre mid (hundredths s)

-- what table 7.3 reads, in 1/200 Pa, at a mid-depth as read, in half millimetres
abbrev pub table_friction : Soil → ℕ → ℕ
table_friction s mid = friction_at (friction_spot s mid)

-- the friction of a slice: that, and in the first metre as 02 (v) says
unfoldable pub friction : Soil → ℕ → ℕ
friction s mid = with_first_metre (table_friction s) mid

-- "method 1, dry or cased: sand, sandy loam, loam 7, clay 6. Method 2, under water or slurry: all 6.
-- Method 3, stiff mix vibrated at depth, dry: sand, sandy loam, loam 8, clay 7."; in tenths
unfoldable pub factor : ℕ → ℕ → ℕ
factor method kind =
    pick (eqb method 1) (pick (eqb kind 6) 6 7)
    (pick (eqb method 2) 6
    (pick (eqb kind 6) 7 8))

-- a piece with its friction and factor: what the table holds
unfoldable pub slice_of : Pile → Piece → Slice
slice_of p c = record {
  top = c.top;
  thickness = c.thickness;
  friction = friction c.soil (mid_of p c.top c.thickness);
  factor = factor p.method c.soil.kind;
}

unfoldable pub slice_each : Pile → List Piece → List Slice
slice_each p [] = []
slice_each p (c ∷ cs) = slice_of p c ∷ slice_each p cs

-- "the millimetre just below the tip": from the tip depth to the next
abbrev pub below_tip : Pile → ℕ
below_tip p = p.tip

-- the slices of the shaft, from head to tip. 02 (i): "Fill carries no friction.": it lies above natural ground, from which every depth counts
abbrev pub shaft_slices : (ℕ → Soil) → Pile → List Slice
shaft_slices g p = slice_each p (pieces g p.head p.tip)

-- all thicknesses together
abbrev pub thickness_sum : List Slice → ℕ
thickness_sum [] = 0
thickness_sum (c ∷ cs) = c.thickness + thickness_sum cs

-- "the sum of friction × thickness × factor": in 1/2,000,000 of a newton per metre
unfoldable pub friction_sum : List Slice → ℕ
friction_sum [] = 0
friction_sum (c ∷ cs) = c.friction * c.thickness * c.factor + friction_sum cs

-- "by the liquidity index of the stratum holding the millimetre just below the tip; an index below 0 reads as 0"
abbrev pub tip_spot : ℕ → ℕ → Spot
tip_spot depth index = spot_in tip_depths tip_rows 1000 depth (max 100 index - 100)

-- "1. R to whole Pa.", or the dash where one would be read with a weight above zero
unfoldable pub tip_read : ℕ → ℕ → Option ℕ
tip_read depth index = pick (dash_at (tip_spot depth index)) None (Some (tip_at (tip_spot depth index)))

abbrev pub is_dash : Option ℕ → Bool
is_dash None = true
is_dash (Some r) = false

abbrev pub pascals : Option ℕ → ℕ
pascals None = 0
pascals (Some r) = r

-- 02 (iv): "A sand tip brings an extra record of three whole numbers": R by formula (7.12), capped by table 7.2; 0 without the record
abbrev pub sand_pascals : Pile → Option SandNumbers → Soil → ℕ
sand_pascals p None s = 0
sand_pascals p (Some b) s = sand_resistance b (tip_from_cut p) p.a s.kind (tip_of p)

-- R; the extra record is "ignored over clay"
unfoldable pub resistance : Pile → Option SandNumbers → Soil → ℕ
resistance p extra s = pick (sand s) (sand_pascals p extra s) (pascals (tip_read (tip_of p) s.index))

-- "2. Line: the sum of friction × thickness × factor, to whole N per metre of perimeter."
abbrev pub line_of : List Slice → ℕ
line_of cs = friction_sum cs / 2000000

-- "3. Tip: R × area, to whole N."; "Pi is 3.14159"
unfoldable pub tip_force : Pile → ℕ → ℕ
tip_force p r = pick (eqb p.section 1) (r * p.a * p.a * 314159 / 400000000000) (r * p.a * p.b / 1000000)

-- "4. Shaft: line × perimeter, to whole N."
unfoldable pub shaft_force : Pile → ℕ → ℕ
shaft_force p line = pick (eqb p.section 1) (line * p.a * 314159 / 100000000) (line * (p.a + p.b) * 2 / 1000)

-- "5. Capacity: (tip + shaft) × 0.8 if the tip stratum's saturation is under 90, else × 1; to whole N."; 02 (iv): "A sand tip's capacity takes × 1"
unfoldable pub capacity_of : Soil → ℕ → ℕ
capacity_of s n = pick (both (neg (sand s)) (ltb s.saturation 90)) (n * 8 / 10) n

-- "6. Uplift: shaft × 0.6 if tip less head is under 4,000, else × 0.8; to whole N."
unfoldable pub uplift_of : Pile → ℕ → ℕ
uplift_of p n = pick (ltb (p.tip - p.head) 4000) (n * 6 / 10) (n * 8 / 10)
