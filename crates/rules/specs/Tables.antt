-- Tables 7.3 and 7.8 as document 01 prints them, and the rule by which tables are read.
use Rattle.std.specs.Prelude.{Bool, false, List, [], ◌∷◌, ℕ, zero, suc, ◌+◌, ◌*◌, ◌-◌, ◌/◌, min, max, length, get_or, ltb, Option, None, Some}
use Rattle.rules.specs.declared.Spot.{Spot}
use Rattle.rules.specs.Base.{pick, both, either}

-- "SNiP table 2 (table 7.3 of source document 001), kPa": depths in metres; columns 0.2 to 1.0
abbrev pub friction_depths : List ℕ
friction_depths = 1 ∷ 2 ∷ 3 ∷ 4 ∷ 5 ∷ 6 ∷ 8 ∷ 10 ∷ 15 ∷ 20 ∷ 25 ∷ 30 ∷ 35 ∷ []

abbrev pub friction_rows : List (List ℕ)
friction_rows =
    (35 ∷ 23 ∷ 15 ∷ 12 ∷ 8 ∷ 4 ∷ 4 ∷ 3 ∷ 2 ∷ []) ∷
    (42 ∷ 30 ∷ 21 ∷ 17 ∷ 12 ∷ 7 ∷ 5 ∷ 4 ∷ 4 ∷ []) ∷
    (48 ∷ 35 ∷ 25 ∷ 20 ∷ 14 ∷ 8 ∷ 7 ∷ 6 ∷ 5 ∷ []) ∷
    (53 ∷ 38 ∷ 27 ∷ 22 ∷ 16 ∷ 9 ∷ 8 ∷ 7 ∷ 5 ∷ []) ∷
    (56 ∷ 40 ∷ 29 ∷ 24 ∷ 17 ∷ 10 ∷ 8 ∷ 7 ∷ 6 ∷ []) ∷
    (58 ∷ 42 ∷ 31 ∷ 25 ∷ 18 ∷ 10 ∷ 8 ∷ 7 ∷ 6 ∷ []) ∷
    (62 ∷ 44 ∷ 33 ∷ 26 ∷ 19 ∷ 10 ∷ 8 ∷ 7 ∷ 6 ∷ []) ∷
    (65 ∷ 46 ∷ 34 ∷ 27 ∷ 19 ∷ 10 ∷ 8 ∷ 7 ∷ 6 ∷ []) ∷
    (72 ∷ 51 ∷ 38 ∷ 28 ∷ 20 ∷ 11 ∷ 8 ∷ 7 ∷ 6 ∷ []) ∷
    (79 ∷ 56 ∷ 41 ∷ 30 ∷ 20 ∷ 12 ∷ 8 ∷ 7 ∷ 6 ∷ []) ∷
    (86 ∷ 61 ∷ 44 ∷ 32 ∷ 20 ∷ 12 ∷ 8 ∷ 7 ∷ 6 ∷ []) ∷
    (93 ∷ 66 ∷ 47 ∷ 34 ∷ 21 ∷ 12 ∷ 9 ∷ 8 ∷ 7 ∷ []) ∷
    (100 ∷ 70 ∷ 50 ∷ 36 ∷ 22 ∷ 13 ∷ 9 ∷ 8 ∷ 7 ∷ []) ∷
    []

-- "Tip resistance R, table 7.8 of source document 001, kPa": depths in metres; columns 0.0 to 0.6
abbrev pub tip_depths : List ℕ
tip_depths = 3 ∷ 5 ∷ 7 ∷ 10 ∷ 12 ∷ 15 ∷ 18 ∷ 20 ∷ 30 ∷ 40 ∷ []

abbrev pub tip_rows : List (List (Option ℕ))
tip_rows =
    (Some 850 ∷ Some 750 ∷ Some 650 ∷ Some 500 ∷ Some 400 ∷ Some 300 ∷ Some 250 ∷ []) ∷
    (Some 1000 ∷ Some 850 ∷ Some 750 ∷ Some 650 ∷ Some 500 ∷ Some 400 ∷ Some 350 ∷ []) ∷
    (Some 1150 ∷ Some 1000 ∷ Some 850 ∷ Some 750 ∷ Some 600 ∷ Some 500 ∷ Some 450 ∷ []) ∷
    (Some 1350 ∷ Some 1200 ∷ Some 1050 ∷ Some 950 ∷ Some 800 ∷ Some 700 ∷ Some 600 ∷ []) ∷
    (Some 1550 ∷ Some 1400 ∷ Some 1250 ∷ Some 1100 ∷ Some 950 ∷ Some 800 ∷ Some 700 ∷ []) ∷
    (Some 1800 ∷ Some 1650 ∷ Some 1500 ∷ Some 1300 ∷ Some 1100 ∷ Some 1000 ∷ Some 800 ∷ []) ∷
    (Some 2100 ∷ Some 1900 ∷ Some 1700 ∷ Some 1500 ∷ Some 1300 ∷ Some 1150 ∷ Some 950 ∷ []) ∷
    (Some 2300 ∷ Some 2100 ∷ Some 1900 ∷ Some 1650 ∷ Some 1450 ∷ Some 1250 ∷ Some 1050 ∷ []) ∷
    (Some 3300 ∷ Some 3000 ∷ Some 2600 ∷ Some 2300 ∷ Some 2000 ∷ None ∷ None ∷ []) ∷
    (Some 4500 ∷ Some 4000 ∷ Some 3500 ∷ Some 3000 ∷ Some 2500 ∷ None ∷ None ∷ []) ∷
    []

-- the last of the rows i to i + n whose depth, times unit, is at most d; i where there is none
unfoldable pub row_for : List ℕ → ℕ → ℕ → ℕ → ℕ → ℕ
row_for ds unit zero i d = i
row_for ds unit (suc n) i d = let on = row_for ds unit n (i + 1) d in pick (ltb d (get_or ds (i + 1) 0 * unit)) i on

-- Where depth d stands, in parts of which a metre has unit, and q hundredths right of the first column, in a table of
-- m + 2 rows and c + 2 columns of ten hundredths. "above 1 m depth the 1 m row, below 35 m the 35 m row"; right of the last column, that column.
-- Above 1 m `with_first_metre` makes friction of that row.
unfoldable pub spot_of : List ℕ → ℕ → ℕ → ℕ → ℕ → ℕ → Spot
spot_of ds unit m c d q =
    let clamped = max (get_or ds 0 0 * unit) (min d (get_or ds (m + 1) 0 * unit)) in
    let i = row_for ds unit m 0 clamped in
    let right = min q ((c + 1) * 10) in
    let j = min c (right / 10) in
    record {
      row = i;
      column = j;
      down = clamped - get_or ds i 0 * unit;
      span = (get_or ds (i + 1) 0 - get_or ds i 0) * unit;
      across = right - j * 10;
    }

-- in a table of these depths and rows
abbrev pub spot_in : {A : Type 0} → List ℕ → List (List A) → ℕ → ℕ → ℕ → Spot
spot_in ds rows unit d q = spot_of ds unit (length ds - 2) (length (get_or rows 0 []) - 2) d q

-- "Straight-line interpolation both ways": the four cells weighed, times span times ten
unfoldable pub weighed : Spot → ℕ → ℕ → ℕ → ℕ → ℕ
weighed p a b c d =
    (p.span - p.down) * ((10 - p.across) * a + p.across * b) + p.down * ((10 - p.across) * c + p.across * d)

abbrev pub cell : {A : Type 0} → A → List (List A) → ℕ → ℕ → A
cell z t i j = get_or (get_or t i []) j z

abbrev pub friction_cell : ℕ → ℕ → ℕ
friction_cell i j = cell 0 friction_rows i j

abbrev pub tip_cell : ℕ → ℕ → Option ℕ
tip_cell i j = cell None tip_rows i j

abbrev pub friction_weighed : Spot → ℕ
friction_weighed p =
    weighed p
    (friction_cell p.row p.column) (friction_cell p.row (p.column + 1))
    (friction_cell (p.row + 1) p.column) (friction_cell (p.row + 1) (p.column + 1))

-- "Friction is kept in units of 1/200 Pa, in which it is always whole.": a kPa has 200,000 of them
unfoldable pub friction_at : Spot → ℕ
friction_at p = friction_weighed p * 20000 / p.span

-- 1 m in half millimetres, in which mid-depths count
abbrev pub metre : ℕ
metre = 2000

-- 02 (v): "A mid-depth, as read, above 1 m now takes the 1 m value times the mid-depth in metres. It is still whole in 1/200 Pa.": the reading of
-- table 7.3 at 1 m, of one soil, for a mid-depth of less than 1 m; the division leaves no remainder (FirstMetreLaws: first_metre_whole)
abbrev pub with_first_metre : (ℕ → ℕ) → ℕ → ℕ
with_first_metre reading mid = pick (ltb mid metre) (reading metre * mid / metre) (reading mid)

abbrev pub kpa_of : Option ℕ → ℕ
kpa_of None = 0
kpa_of (Some n) = n

-- "a dash in table 7.8 would be read with a weight above zero": the weight of its row, and that of its column
abbrev pub gap : ℕ → ℕ → Option ℕ → Bool
gap u v None = both (ltb 0 u) (ltb 0 v)
gap u v (Some n) = false

unfoldable pub dash_at : Spot → Bool
dash_at p =
    either (gap (p.span - p.down) (10 - p.across) (tip_cell p.row p.column))
    (either (gap (p.span - p.down) p.across (tip_cell p.row (p.column + 1)))
    (either (gap p.down (10 - p.across) (tip_cell (p.row + 1) p.column))
    (gap p.down p.across (tip_cell (p.row + 1) (p.column + 1)))))

-- "R to whole Pa", rounded down once, after both interpolations
unfoldable pub tip_at : Spot → ℕ
tip_at p =
    weighed p
    (kpa_of (tip_cell p.row p.column)) (kpa_of (tip_cell p.row (p.column + 1)))
    (kpa_of (tip_cell (p.row + 1) p.column)) (kpa_of (tip_cell (p.row + 1) (p.column + 1)))
    * 100 / p.span
