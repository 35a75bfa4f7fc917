-- Tips in sand, 02 (iv): tables 7.7 and 7.2 as source document 001 prints them, how they are read, R, and the extra record as it is given.
use Rattle.std.specs.Prelude.{List, [], ◌∷◌, eqb, ℕ, ◌+◌, ◌*◌, ◌-◌, ◌/◌, min, length, Option, None, Some}
use Rattle.rules.specs.declared.Spot.{Spot}
use Rattle.rules.specs.declared.OnScale.{OnScale}
use Rattle.rules.specs.declared.SandNumbers.{SandNumbers}
use Rattle.rules.specs.declared.SandFields.{SandFields}
use Rattle.rules.specs.Base.{pick}
use Rattle.rules.specs.Tables.{spot_of, cell}

-- Table 7.7. Its scales: angles in degrees; h/d in halves, "25,0 and more" the last; diameters in millimetres, "0,8 and less" the first
abbrev pub angles : List ℕ
angles = 23 ∷ 25 ∷ 27 ∷ 29 ∷ 31 ∷ 33 ∷ 35 ∷ 37 ∷ 39 ∷ []

abbrev pub ratios : List ℕ
ratios = 8 ∷ 10 ∷ 15 ∷ 20 ∷ 25 ∷ 30 ∷ 35 ∷ 40 ∷ 45 ∷ 50 ∷ []

abbrev pub diameters : List ℕ
diameters = 800 ∷ 4000 ∷ []

-- its lines, each with a cell for every angle
abbrev pub sand_lines : List (List ℕ)
sand_lines =
    -- line 0, α1 in tenths
    (95 ∷ 126 ∷ 173 ∷ 244 ∷ 346 ∷ 486 ∷ 713 ∷ 1080 ∷ 1630 ∷ []) ∷
    -- line 1, α2 in tenths
    (186 ∷ 248 ∷ 328 ∷ 455 ∷ 640 ∷ 876 ∷ 1270 ∷ 1850 ∷ 2600 ∷ []) ∷
    -- lines 2 to 11, α3 in hundredths, one for each h/d: 4.0, 5.0, 7.5, 10.0, 12.5
    (78 ∷ 79 ∷ 80 ∷ 82 ∷ 84 ∷ 85 ∷ 85 ∷ 85 ∷ 87 ∷ []) ∷
    (75 ∷ 76 ∷ 77 ∷ 79 ∷ 81 ∷ 82 ∷ 83 ∷ 84 ∷ 85 ∷ []) ∷
    (68 ∷ 70 ∷ 71 ∷ 74 ∷ 76 ∷ 78 ∷ 80 ∷ 82 ∷ 84 ∷ []) ∷
    (62 ∷ 65 ∷ 67 ∷ 70 ∷ 73 ∷ 75 ∷ 77 ∷ 79 ∷ 81 ∷ []) ∷
    (58 ∷ 61 ∷ 63 ∷ 67 ∷ 70 ∷ 73 ∷ 75 ∷ 78 ∷ 80 ∷ []) ∷
    -- 15.0, 17.5, 20.0, 22.5, 25.0
    (55 ∷ 58 ∷ 61 ∷ 65 ∷ 68 ∷ 71 ∷ 73 ∷ 76 ∷ 79 ∷ []) ∷
    (51 ∷ 55 ∷ 58 ∷ 62 ∷ 66 ∷ 69 ∷ 72 ∷ 75 ∷ 78 ∷ []) ∷
    (49 ∷ 53 ∷ 57 ∷ 61 ∷ 65 ∷ 68 ∷ 72 ∷ 75 ∷ 78 ∷ []) ∷
    (46 ∷ 51 ∷ 55 ∷ 60 ∷ 64 ∷ 67 ∷ 71 ∷ 74 ∷ 77 ∷ []) ∷
    (44 ∷ 49 ∷ 54 ∷ 59 ∷ 63 ∷ 67 ∷ 70 ∷ 74 ∷ 77 ∷ []) ∷
    -- lines 12 and 13, α4 in hundredths, one for each diameter
    (34 ∷ 31 ∷ 29 ∷ 27 ∷ 26 ∷ 25 ∷ 24 ∷ 23 ∷ 22 ∷ []) ∷
    (25 ∷ 24 ∷ 23 ∷ 22 ∷ 21 ∷ 20 ∷ 19 ∷ 18 ∷ 17 ∷ []) ∷
    []

-- Table 7.2, sand, kPa: depths in metres, "≥ 35" the last; "kinds 1, 2, 3 by its medium, fine and silty columns"
abbrev pub cap_depths : List ℕ
cap_depths = 3 ∷ 4 ∷ 5 ∷ 7 ∷ 10 ∷ 15 ∷ 20 ∷ 25 ∷ 30 ∷ 35 ∷ []

abbrev pub cap_columns : List (List ℕ)
cap_columns =
    (3100 ∷ 3200 ∷ 3400 ∷ 3700 ∷ 4000 ∷ 4400 ∷ 4800 ∷ 5200 ∷ 5600 ∷ 6000 ∷ []) ∷
    (2000 ∷ 2100 ∷ 2200 ∷ 2400 ∷ 2600 ∷ 2900 ∷ 3200 ∷ 3500 ∷ 3800 ∷ 4100 ∷ []) ∷
    (1100 ∷ 1250 ∷ 1300 ∷ 1400 ∷ 1500 ∷ 1650 ∷ 1800 ∷ 1950 ∷ 2100 ∷ 2250 ∷ []) ∷
    []

-- line i, at angle j
abbrev pub sand_cell : ℕ → ℕ → ℕ
sand_cell i j = cell 0 sand_lines i j

-- column i, at depth j
abbrev pub cap_cell : ℕ → ℕ → ℕ
cap_cell i j = cell 0 cap_columns i j

-- Where n stands on a printed scale, in parts of which one unit of the scale has `unit`. It is the rule of tables 7.3 and 7.8 down their
-- depths: before the first mark the first, past the last the last.
unfoldable pub on_scale : List ℕ → ℕ → ℕ → OnScale
on_scale marks unit n =
    let s = spot_of marks unit (length marks - 2) 0 n 0 in
    record { place = s.row; past = s.down; span = s.span }

-- the mean of two numbers there, times the span
abbrev pub mean : OnScale → ℕ → ℕ → ℕ
mean s a b = (s.span - s.past) * a + s.past * b

-- "The printed 0.9 is applied to the angle before reading.": of hundredths of a degree, in thousandths, in which it is whole
abbrev pub reduced : ℕ → ℕ
reduced angle = angle * 9

-- of a reduced angle, in thousandths of a degree
abbrev pub on_angles : ℕ → OnScale
on_angles t = on_scale angles 1000 t

-- of h and d in millimetres: 2h in parts of which one half of h/d has d. "h/d at 25 or more uses the last line"
abbrev pub on_ratios : ℕ → ℕ → OnScale
on_ratios h d = on_scale ratios d (2 * h)

-- "d of 0.8 m or less the first α4 line"
abbrev pub on_diameters : ℕ → OnScale
on_diameters d = on_scale diameters 1 d

-- line i of table 7.7 where an angle stands, times the span of the angles
unfoldable pub at_angle : OnScale → ℕ → ℕ
at_angle s i = mean s (sand_cell i s.place) (sand_cell i (s.place + 1))

-- "Each coefficient is interpolated, then rounded down to a ten-thousandth": of a line in tenths
unfoldable pub of_tenths : OnScale → ℕ → ℕ
of_tenths s i = at_angle s i * 1000 / s.span

-- and of lines in hundredths, of which line `first` belongs to the first mark of the other scale: rounded down once, after both interpolations
unfoldable pub of_hundredths : OnScale → ℕ → OnScale → ℕ
of_hundredths s first m = mean m (at_angle s (first + m.place)) (at_angle s (first + m.place + 1)) * 100 / (m.span * s.span)

abbrev pub alpha1 : ℕ → ℕ
alpha1 t = of_tenths (on_angles t) 0

abbrev pub alpha2 : ℕ → ℕ
alpha2 t = of_tenths (on_angles t) 1

abbrev pub alpha3 : ℕ → ℕ → ℕ → ℕ
alpha3 t h d = of_hundredths (on_angles t) 2 (on_ratios h d)

abbrev pub alpha4 : ℕ → ℕ → ℕ
alpha4 t d = of_hundredths (on_angles t) 12 (on_diameters d)

-- "γ1 h to whole Pa": N/m³ times mm
abbrev pub overburden : ℕ → ℕ → ℕ
overburden weight h = weight * h / 1000

-- "each term in the bracket to whole Pa": α1 γ'1 d, of ten-thousandths, N/m³ and mm; α2 α3 γ1 h, of ten-thousandths twice, and Pa
unfoldable pub width_term : ℕ → ℕ → ℕ → ℕ
width_term a1 weight d = a1 * weight * d / 10000000

unfoldable pub depth_term : ℕ → ℕ → ℕ → ℕ
depth_term a2 a3 p = a2 * a3 * p / 100000000

-- "R = 0.75 α4 (α1 γ'1 d + α2 α3 γ1 h)", "R to whole Pa": of a tip that is h deep, the pile's diameter being d
unfoldable pub sand_formula : SandNumbers → ℕ → ℕ → ℕ
sand_formula b h d =
    let t = reduced b.angle in
    let bracket = width_term (alpha1 t) b.below d + depth_term (alpha2 t) (alpha3 t h d) (overburden b.above h) in
    75 * alpha4 t d * bracket / 1000000

-- "R is capped by table 7.2 there, for sand: .. interpolated on the tip depth as read, rounded down to whole Pa, below 35 m the 35 m row."
unfoldable pub sand_cap : ℕ → ℕ → ℕ
sand_cap kind depth =
    let s = on_scale cap_depths 1000 depth in
    mean s (cap_cell (kind - 1) s.place) (cap_cell (kind - 1) (s.place + 1)) * 1000 / s.span

-- R of a sand tip of this kind, h deep, at this depth as read
unfoldable pub sand_resistance : SandNumbers → ℕ → ℕ → ℕ → ℕ → ℕ
sand_resistance b h d kind depth = min (sand_formula b h d) (sand_cap kind depth)

-- the extra record, as hosts give it: absent where given is 0; any other: the three numbers
unfoldable pub sand_from : SandFields → Option SandNumbers
sand_from f = pick (eqb f.given 0) None (Some (record { angle = f.angle; below = f.below; above = f.above }))
