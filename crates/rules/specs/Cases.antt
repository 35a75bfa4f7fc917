-- Cases A to L of document 01, "The sheet program and known numbers", two that its traps ask for, a deep pile, and cases of requests of 02:
-- what is right, and what the definitions give. Each case has its whole reply: number, row, field, kept and all five numbers. Five numbers that
-- the papers do not print are from the second program (second/), which works in exact fractions.
use Rattle.rules.specs.declared.SandNumbers.{SandNumbers}
use Rattle.std.specs.Prelude.{List, [], ◌∷◌, ◌++◌, map, ℕ, ◌*◌, ◌-◌, ◌^◌, eqb, take, replicate, Option, None, Some}
use Rattle.rules.specs.declared.Row.{Row}
use Rattle.rules.specs.declared.Pile.{Pile}
use Rattle.rules.specs.declared.Slice.{Slice}
use Rattle.rules.specs.declared.Answer.{Answer}
use Rattle.rules.specs.Base.{pick}
use Rattle.rules.specs.Grades.{with_grade}
use Rattle.rules.specs.Records.{plain_size, graded_size, slice_size, slice_fields}
use Rattle.rules.specs.Limits.{row_limit, table_size}
use Rattle.rules.specs.Packed.{rows_of, pile_of, log_for, pile_bytes}
use Rattle.rules.specs.Ground.{soil_at}
use Rattle.rules.specs.Numbers.{resistance, below_tip}
use Rattle.rules.specs.Calculation.{calculated, table_after, held_slices_of}
use Rattle.rules.specs.Sheet.{sheet_text}

-- what a case gives
pub data Shown : Type 0 where
  -- accepted, with line, tip, shaft, capacity, uplift
  five : ℕ → ℕ → ℕ → ℕ → ℕ → Shown
  -- refused by this number, row 0 and field 0: "zeros for line, tip, shaft, capacity, uplift and kept"
  refused_by : ℕ → Shown
  -- R in kPa, and R in Pa, accepted
  kPa : ℕ → Shown
  pa : ℕ → Shown
  -- the slices: top, thickness, friction, factor
  bars : List (List ℕ) → Shown
  -- the packed log, the pile record, the first slice in the table
  log_hex : List ℕ → Shown
  pile_hex : List ℕ → Shown
  first_slice : List ℕ → Shown
  -- the whole sheet, in ASCII
  sheet : List ℕ → Shown

pub record Case : Type 0 where
  pub rows : List Row
  pub pile : Pile
  pub extra : Option SandNumbers
  pub shown : Shown

abbrev pub joined : List (List ℕ) → List ℕ
joined [] = []
joined (l ∷ ls) = l ++ joined ls

-- a reply: refusal number, row, field; kept; line, tip, shaft, capacity, uplift
abbrev pub printed : Shown → List ℕ
printed (five l t s c u) = 0 ∷ 0 ∷ 0 ∷ 0 ∷ l ∷ t ∷ s ∷ c ∷ u ∷ []
printed (refused_by n) = n ∷ 0 ∷ 0 ∷ 0 ∷ 0 ∷ 0 ∷ 0 ∷ 0 ∷ 0 ∷ []
printed (kPa r) = 0 ∷ r * 1000 ∷ []
printed (pa r) = 0 ∷ r ∷ []
printed (bars l) = 0 ∷ joined l
printed (log_hex l) = l
printed (pile_hex l) = l
printed (first_slice l) = l
printed (sheet l) = l

-- the packed bytes of a case, and a table to fill
abbrev pub log_in : List Row → List ℕ
log_in rs = log_for row_limit rs

-- ten bytes where there is a grade, else eight
abbrev pub pile_record : Pile → List ℕ
pile_record p = pile_bytes (pick (eqb p.grade 0) plain_size graded_size) p

abbrev pub blank_table : List ℕ
blank_table = replicate (table_size row_limit) 0

abbrev pub answer_in : List Row → Pile → Option SandNumbers → Answer
answer_in rs p extra = calculated (log_in rs) (pile_record p) extra blank_table

abbrev pub slices_in : List Row → Pile → Option SandNumbers → List Slice
slices_in rs p extra = held_slices_of (rows_of (log_in rs)) (pile_of (pile_record p)) extra

abbrev pub resistance_in : List Row → Pile → Option SandNumbers → ℕ
resistance_in rs p extra = resistance (pile_of (pile_record p)) extra (soil_at (rows_of (log_in rs)) (below_tip p))

abbrev pub reply_of : Answer → List ℕ
reply_of a = a.refusal.number ∷ a.refusal.row ∷ a.refusal.field ∷ a.kept ∷ a.line ∷ a.tip ∷ a.shaft ∷ a.capacity ∷ a.uplift ∷ []

-- the same, worked out by the definitions, from the packed bytes
abbrev pub worked : Shown → List Row → Pile → Option SandNumbers → List ℕ
worked (five l t s c u) rs p extra = reply_of (answer_in rs p extra)
worked (refused_by n) rs p extra = reply_of (answer_in rs p extra)
worked (kPa r) rs p extra = (answer_in rs p extra).refusal.number ∷ resistance_in rs p extra ∷ []
worked (pa r) rs p extra = (answer_in rs p extra).refusal.number ∷ resistance_in rs p extra ∷ []
worked (bars l) rs p extra = (answer_in rs p extra).refusal.number ∷ joined (map slice_fields (slices_in rs p extra))
worked (log_hex l) rs p extra = log_in rs
worked (pile_hex l) rs p extra = pile_record p
worked (first_slice l) rs p extra = take slice_size (table_after (log_in rs) (pile_record p) extra blank_table)
-- the sheet program brings no extra record
worked (sheet l) rs p extra = sheet_text (log_in rs ++ pile_record p)

abbrev pub work : Case → List ℕ
work c = worked c.shown c.rows c.pile c.extra

abbrev pub print : Case → List ℕ
print c = printed c.shown

abbrev pub row : ℕ → ℕ → ℕ → ℕ → Row
row t k i w = record { thickness = t; kind = k; index = i; saturation = w; zero = 0 }

-- with no extra record, and with one
abbrev pub case : List Row → Pile → Shown → Case
case r p s = record { rows = r; pile = p; extra = None; shown = s }

abbrev pub case_with : Option SandNumbers → List Row → Pile → Shown → Case
case_with extra r p s = record { rows = r; pile = p; extra = extra; shown = s }

-- clay of saturation 95 and this index, in hundredths plus 100
abbrev pub clay : ℕ → ℕ → List Row
clay t i = row t 6 i 95 ∷ []

-- fine sand, its saturation that of the clay
abbrev pub fine_sand : ℕ → Row
fine_sand t = row t 2 100 95

-- circle 600, head 1,000
abbrev pub circle : ℕ → ℕ → Pile
circle m t = record { section = 1; a = 600; b = 0; method = m; head = 1000; tip = t; zero = 0; grade = 0 }

abbrev pub pile_a : Pile
pile_a = circle 1 10000

-- the grade of a fill and that of a cut
abbrev pub filled : ℕ → ℕ
filled b = b

abbrev pub dug : ℕ → ℕ
dug c = 2 ^ 16 - c

-- A's circle from a head down to a tip, where the site is cut
abbrev pub in_cut : ℕ → ℕ → ℕ → Pile
in_cut c h t = record { section = 1; a = 600; b = 0; method = 1; head = h; tip = t; zero = 0; grade = dug c }

-- a circle of diameter d, head 1,000
abbrev pub circle_of : ℕ → ℕ → Pile
circle_of d t = record { section = 1; a = d; b = 0; method = 1; head = 1000; tip = t; zero = 0; grade = 0 }

-- the extra record: angle, unit weight below and above
abbrev pub sand_record : ℕ → ℕ → ℕ → Option SandNumbers
sand_record angle below above = Some (record { angle = angle; below = below; above = above })

-- sand of this kind, its saturation that of the clay
abbrev pub sand_of : ℕ → ℕ → List Row
sand_of t kind = row t kind 100 95 ∷ []

abbrev pub rectangle : ℕ → ℕ → Pile
rectangle a b = record { section = 2; a = a; b = b; method = 1; head = 1000; tip = 10000; zero = 0; grade = 0 }

abbrev pub sheet_a : List ℕ
sheet_a =
    (97 ∷ 110 ∷ 115 ∷ 119 ∷ 101 ∷ 114 ∷ 32 ∷ 48 ∷ 32 ∷ 48 ∷ 32 ∷ 48 ∷ 10 ∷ []) ++
    (115 ∷ 108 ∷ 105 ∷ 99 ∷ 101 ∷ 32 ∷ 49 ∷ 48 ∷ 48 ∷ 48 ∷ 32 ∷ 50 ∷ 48 ∷ 48 ∷ 48 ∷ 32 ∷ 54 ∷ 48 ∷ 48 ∷ 48 ∷ 48 ∷ 48 ∷ 48 ∷ 32 ∷ 54 ∷ 10 ∷ []) ++
    (115 ∷ 108 ∷ 105 ∷ 99 ∷ 101 ∷ 32 ∷ 51 ∷ 48 ∷ 48 ∷ 48 ∷ 32 ∷ 50 ∷ 48 ∷ 48 ∷ 48 ∷ 32 ∷ 55 ∷ 54 ∷ 48 ∷ 48 ∷ 48 ∷ 48 ∷ 48 ∷ 32 ∷ 54 ∷ 10 ∷ []) ++
    (115 ∷ 108 ∷ 105 ∷ 99 ∷ 101 ∷ 32 ∷ 53 ∷ 48 ∷ 48 ∷ 48 ∷ 32 ∷ 50 ∷ 48 ∷ 48 ∷ 48 ∷ 32 ∷ 56 ∷ 52 ∷ 48 ∷ 48 ∷ 48 ∷ 48 ∷ 48 ∷ 32 ∷ 54 ∷ 10 ∷ []) ++
    (115 ∷ 108 ∷ 105 ∷ 99 ∷ 101 ∷ 32 ∷ 55 ∷ 48 ∷ 48 ∷ 48 ∷ 32 ∷ 50 ∷ 48 ∷ 48 ∷ 48 ∷ 32 ∷ 56 ∷ 56 ∷ 48 ∷ 48 ∷ 48 ∷ 48 ∷ 48 ∷ 32 ∷ 54 ∷ 10 ∷ []) ++
    (115 ∷ 108 ∷ 105 ∷ 99 ∷ 101 ∷ 32 ∷ 57 ∷ 48 ∷ 48 ∷ 48 ∷ 32 ∷ 49 ∷ 48 ∷ 48 ∷ 48 ∷ 32 ∷ 57 ∷ 49 ∷ 48 ∷ 48 ∷ 48 ∷ 48 ∷ 48 ∷ 32 ∷ 54 ∷ 10 ∷ []) ++
    (116 ∷ 111 ∷ 116 ∷ 97 ∷ 108 ∷ 32 ∷ 50 ∷ 49 ∷ 50 ∷ 49 ∷ 48 ∷ 48 ∷ 32 ∷ 50 ∷ 54 ∷ 56 ∷ 54 ∷ 48 ∷ 53 ∷ 32 ∷ 51 ∷ 57 ∷ 57 ∷ 55 ∷ 57 ∷ 56 ∷ 32 ∷ 54 ∷ 54 ∷ 56 ∷ 52 ∷ 48 ∷ 51 ∷ 32 ∷ 51 ∷ 49 ∷ 57 ∷ 56 ∷ 51 ∷ 56 ∷ 10 ∷ [])

abbrev pub bars_a : List (List ℕ)
bars_a = (1000 ∷ 2000 ∷ 6000000 ∷ 6 ∷ []) ∷ (3000 ∷ 2000 ∷ 7600000 ∷ 6 ∷ []) ∷ (5000 ∷ 2000 ∷ 8400000 ∷ 6 ∷ []) ∷ (7000 ∷ 2000 ∷ 8800000 ∷ 6 ∷ []) ∷ (9000 ∷ 1000 ∷ 9100000 ∷ 6 ∷ []) ∷ []

-- A's pile with its head at this depth
abbrev pub head_at : ℕ → Pile
head_at h = record { section = 1; a = 600; b = 0; method = 1; head = h; tip = 10000; zero = 0; grade = 0 }

-- E's rectangle from the ground, by method 3
abbrev pub wide_from_ground : Pile
wide_from_ground = record { section = 2; a = 800; b = 400; method = 3; head = 0; tip = 10000; zero = 0; grade = 0 }

-- rows over A's clay
abbrev pub over_a : List Row → List Row
over_a rs = rs ++ clay 20000 130

-- A's slices where its clay begins at 1,001
abbrev pub lower_bars : List (List ℕ)
lower_bars = (1001 ∷ 2000 ∷ 6001000 ∷ 6 ∷ []) ∷ (3001 ∷ 2000 ∷ 7600400 ∷ 6 ∷ []) ∷ (5001 ∷ 2000 ∷ 8400200 ∷ 6 ∷ []) ∷ (7001 ∷ 2000 ∷ 8800200 ∷ 6 ∷ []) ∷ (9001 ∷ 999 ∷ 9100100 ∷ 6 ∷ []) ∷ []

abbrev pub cases : List Case
cases =
    -- A: one clay row, 20,000 mm, index 0.30, saturation 95; circle 600, method 1, head 1,000, tip 10,000
    case (clay 20000 130) pile_a (log_hex ((1 ∷ 78 ∷ 32 ∷ 208 ∷ 87 ∷ 192 ∷ []) ++ replicate 315 0)) ∷
    case (clay 20000 130) pile_a (pile_hex (73 ∷ 96 ∷ 0 ∷ 16 ∷ 62 ∷ 130 ∷ 113 ∷ 0 ∷ [])) ∷
    case (clay 20000 130) pile_a (five 212100 268605 399798 668403 319838) ∷
    case (clay 20000 130) pile_a (bars bars_a) ∷
    case (clay 20000 130) pile_a (first_slice (3 ∷ 232 ∷ 250 ∷ 5 ∷ 184 ∷ 216 ∷ 6 ∷ [])) ∷
    case (clay 20000 130) pile_a (sheet sheet_a) ∷
    -- B: forty rows of 500
    case (replicate 40 (row 500 6 130 95)) pile_a (five 212100 268605 399798 668403 319838) ∷
    case (replicate 40 (row 500 6 130 95)) pile_a (bars bars_a) ∷
    -- C: index 0.35
    case (clay 20000 135) pile_a (five 183375 247400 345653 593053 276522) ∷
    -- D: saturation 80
    case (row 20000 6 130 80 ∷ []) pile_a (five 212100 268605 399798 534722 319838) ∷
    -- E: rectangle 800 by 400
    case (clay 20000 130) (rectangle 800 400) (five 212100 304000 509040 813040 407232) ∷
    -- F: method 3
    case (clay 20000 130) (circle 3 10000) (five 247450 268605 466431 735036 373144) ∷
    -- G: 4,000 fine sand, then 16,000 of A's clay
    case (fine_sand 4000 ∷ clay 16000 130) pile_a (five 221150 268605 416857 685462 333485) ∷
    -- H: log 15,000 / 14,999
    case (clay 15000 130) pile_a (five 212100 268605 399798 668403 319838) ∷
    case (clay 15000 130) pile_a (bars bars_a) ∷
    case (clay 14999 130) pile_a (refused_by 8) ∷
    -- I: index 0.45, tip 20,000 / 20,001, log 30,000; five numbers from the second program
    case (clay 30000 145) (circle 1 20000) (kPa 1350) ∷
    case (clay 30000 145) (circle 1 20000) (five 337350 381703 635889 1017592 508711) ∷
    case (clay 30000 145) (circle 1 20001) (refused_by 12) ∷
    -- J: index 0.40, tip 25,000, log 30,000; five numbers from the second program
    case (clay 30000 140) (circle 1 25000) (kPa 1725) ∷
    case (clay 30000 140) (circle 1 25000) (five 508560 487731 958612 1446343 766889) ∷
    -- K: clay top under fine sand at 8,000 / 8,001, log 20,000; five numbers from the second program
    case (fine_sand 8000 ∷ clay 12000 130) pile_a (five 238450 268605 449467 718072 359573) ∷
    case (fine_sand 8001 ∷ clay 11999 130) pile_a (refused_by 10) ∷
    -- L: index 0.60 / 0.61; five numbers from the second program
    case (clay 20000 160) pile_a (kPa 600) ∷
    case (clay 20000 160) pile_a (five 89400 169645 168514 338159 134811) ∷
    case (clay 20000 161) pile_a (refused_by 11) ∷
    -- "Reading the tip soil just above the tip: a tip on a boundary to clay has a seat of 0 mm in the lower soil, and gets 10."
    case (row 10000 5 130 95 ∷ clay 10000 130) pile_a (refused_by 10) ∷
    -- "Rounding each slice's friction to whole Pa before the sum.": A but index 0.37, head 1,001, tip 10,001, by exact fractions
    case (clay 20000 137) (record { section = 1; a = 600; b = 0; method = 1; head = 1001; tip = 10001; zero = 0; grade = 0 }) (five 171894 238939 324012 562951 259209) ∷
    -- "below 35 m the 35 m row": A but tip 38,000, log 45,000; from the second program
    case (clay 45000 130) (circle 1 38000) (five 1214160 808645 2288635 3097280 1830908) ∷
    -- 02 (i), A on a graded site: "Up to 3,000 either way, tables are read as before."
    case (clay 20000 130) (with_grade (filled 3000) pile_a) (five 212100 268605 399798 668403 319838) ∷
    case (clay 20000 130) (with_grade (dug 1000) pile_a) (five 212100 268605 399798 668403 319838) ∷
    case (clay 20000 130) (with_grade (dug 1000) pile_a) (pile_hex (73 ∷ 96 ∷ 0 ∷ 16 ∷ 62 ∷ 130 ∷ 113 ∷ 0 ∷ 252 ∷ 24 ∷ [])) ∷
    case (clay 20000 130) (with_grade (dug 1000) pile_a) (sheet sheet_a) ∷
    -- "a fill b raises it by b less 3,000"
    case (clay 20000 130) (with_grade (filled 3001) pile_a) (five 212111 268627 399819 668446 319855) ∷
    case (clay 20000 130) (with_grade (filled 5000) pile_a) (five 232500 311017 438251 749268 350600) ∷
    -- "7 also when the head is above the cut level"
    case (clay 20000 130) (with_grade (dug 1001) pile_a) (refused_by 7) ∷
    -- "a cut c lowers every depth read in tables 7.3 and 7.8 by c less 3,000": head 5,000 at the cut level, tip 12,000
    case (clay 20000 130) (in_cut 5000 5000 12000) (five 176100 268605 331940 600545 265552) ∷
    -- "or the tip's depth as read is over 40,000": tip 30,000, log 35,000; the five numbers from the second program
    case (clay 35000 130) (with_grade (filled 13000) (circle 1 30000)) (five 1058160 848229 1994582 2842811 1595665) ∷
    case (clay 35000 130) (with_grade (filled 13001) (circle 1 30000)) (refused_by 7) ∷
    -- the former limits of 7 stay on natural depths
    case (clay 60000 130) (in_cut 5000 5000 40001) (refused_by 7) ∷
    -- the deepest cut, of 32,768; the five numbers from the second program
    case (clay 60000 130) (in_cut 32768 32768 40000) (five 182519 273525 344039 617564 275231) ∷
    -- 02 (iv), tips in sand. Four worked values of R, each with its whole reply: medium, fine, silty (h/d just 25) and fine sand (the smallest angle)
    case_with (sand_record 3000 10000 18000) (sand_of 30000 1) (circle_of 600 10000) (pa 780207) ∷
    case_with (sand_record 3000 10000 18000) (sand_of 30000 1) (circle_of 600 10000) (five 345975 220598 652146 872744 521716) ∷
    case_with (sand_record 3200 10000 19000) (sand_of 30000 2) (circle_of 1000 15000) (pa 1689425) ∷
    case_with (sand_record 3200 10000 19000) (sand_of 30000 2) (circle_of 1000 15000) (five 417200 1326870 1310671 2637541 1048536) ∷
    case_with (sand_record 3333 10000 18000) (sand_of 30000 3) (circle_of 400 10000) (pa 1217433) ∷
    case_with (sand_record 3333 10000 18000) (sand_of 30000 3) (circle_of 400 10000) (five 180425 152987 226728 379715 181382) ∷
    case_with (sand_record 2556 9000 17000) (sand_of 30000 2) (circle_of 1200 8000) (pa 464045) ∷
    case_with (sand_record 2556 9000 17000) (sand_of 30000 2) (circle_of 1200 8000) (five 184450 524822 695359 1220181 556287) ∷
    -- "Each coefficient is interpolated, then rounded down"; "γ1 h to whole Pa; each term in the bracket to whole Pa"; "less the cut", also up to 3,000
    case_with (sand_record 2926 9950 17901) (sand_of 30000 1) (with_grade (dug 1000) (circle_of 1200 12123)) (pa 918968) ∷
    case_with (sand_record 2926 9950 17901) (sand_of 30000 1) (with_grade (dug 1000) (circle_of 1200 12123)) (five 444814 1039327 1676907 2716234 1341525) ∷
    -- a fill adds nothing to h
    case_with (sand_record 3000 10000 18000) (sand_of 30000 1) (with_grade (filled 5000) (circle_of 600 10000)) (five 380170 220598 716602 937200 573281) ∷
    -- "h/d at 25 or more uses the last line"
    case_with (sand_record 3000 10000 18000) (sand_of 30000 3) (circle_of 300 10000) (five 180425 49813 170046 219859 136036) ∷
    -- "R is capped .. on the tip depth as read": 4,640,000 Pa, on the natural depth 4,800,000
    case_with (sand_record 4333 10000 18000) (sand_of 30000 1) (in_cut 5000 5000 20000) (kPa 4640) ∷
    case_with (sand_record 4333 10000 18000) (sand_of 30000 1) (in_cut 5000 5000 20000) (five 682570 1311927 1286613 2598540 1029290) ∷
    -- "below 35 m the 35 m row"
    case_with (sand_record 4333 10000 18000) (sand_of 60000 3) (circle_of 600 36000) (five 957320 636171 1804504 2440675 1443603) ∷
    -- "rounded down to whole Pa", and "× 1" at a saturation of 80
    case_with (sand_record 4000 10000 18000) (row 30000 2 100 80 ∷ []) (circle_of 600 8000) (pa 2466666) ∷
    case_with (sand_record 4000 10000 18000) (row 30000 2 100 80 ∷ []) (circle_of 600 8000) (five 184450 697432 347679 1045111 278143) ∷
    -- 9: "without the record or in a rectangle"
    case (sand_of 30000 1) (circle_of 600 10000) (refused_by 9) ∷
    case_with (sand_record 3000 10000 18000) (sand_of 30000 1) (rectangle 800 400) (refused_by 9) ∷
    -- 17: "an angle under 23 or over 39 degrees after the 0.9, a unit weight of 0 or over 30,000, or h/d under 4"
    case_with (sand_record 2555 10000 18000) (sand_of 30000 1) (circle_of 600 10000) (refused_by 17) ∷
    case_with (sand_record 4334 10000 18000) (sand_of 30000 1) (circle_of 600 10000) (refused_by 17) ∷
    case_with (sand_record 3000 0 18000) (sand_of 30000 1) (circle_of 600 10000) (refused_by 17) ∷
    case_with (sand_record 3000 30001 18000) (sand_of 30000 1) (circle_of 600 10000) (refused_by 17) ∷
    case_with (sand_record 3000 10000 0) (sand_of 30000 1) (circle_of 600 10000) (refused_by 17) ∷
    case_with (sand_record 3000 10000 30001) (sand_of 30000 1) (circle_of 600 10000) (refused_by 17) ∷
    case_with (sand_record 3000 1 1) (sand_of 30000 1) (circle_of 600 10000) (five 345975 12 652146 652158 521716) ∷
    case_with (sand_record 3000 30000 30000) (sand_of 30000 1) (circle_of 600 10000) (five 345975 376174 652146 1028320 521716) ∷
    case_with (sand_record 3000 10000 18000) (sand_of 30000 1) (circle_of 2000 7999) (refused_by 17) ∷
    case_with (sand_record 3000 10000 18000) (sand_of 30000 1) (circle_of 2000 8000) (five 256900 2599631 1614148 4213779 1291318) ∷
    -- "after 10": a record of zeros, given, over a seat of 1,999 and over a long one
    case_with (sand_record 0 0 0) (clay 8001 130 ++ sand_of 22000 1) (circle_of 600 10000) (refused_by 10) ∷
    case_with (sand_record 0 0 0) (sand_of 30000 1) (circle_of 600 10000) (refused_by 17) ∷
    -- "ignored over clay"
    case_with (sand_record 0 0 0) (clay 20000 130) pile_a (five 212100 268605 399798 668403 319838) ∷
    -- 02 (v), the first metre; slices and numbers from the second program. "A mid-depth, as read, above 1 m now takes the 1 m value times the mid-depth
    -- in metres. It is still whole in 1/200 Pa.": clay, index 0.40, slice 0 to 1,001; index 0.37
    case (over_a (clay 1001 140)) (head_at 0) (bars ((0 ∷ 1001 ∷ 1501500 ∷ 6 ∷ []) ∷ lower_bars)) ∷
    case (over_a (clay 1001 140)) (head_at 0) (five 216592 268605 408265 676870 326612) ∷
    case (over_a (clay 1001 137)) (head_at 0) (bars ((0 ∷ 1001 ∷ 1741740 ∷ 6 ∷ []) ∷ lower_bars)) ∷
    case (over_a (clay 1001 137)) (head_at 0) (five 217314 268605 409626 678231 327700) ∷
    -- half a millimetre above 1 m, and just at 1 m by a thin slice and by a thick one
    case (over_a (clay 1000 140)) (head_at 999) (bars ((999 ∷ 1 ∷ 2998500 ∷ 6 ∷ []) ∷ bars_a)) ∷
    case (over_a (clay 1000 140)) (head_at 999) (five 212108 268605 399813 668418 319850) ∷
    case (over_a (clay 1001 140)) (head_at 999) (bars ((999 ∷ 2 ∷ 3000000 ∷ 6 ∷ []) ∷ lower_bars)) ∷
    case (over_a (clay 1001 140)) (head_at 999) (five 212101 268605 399800 668405 319840) ∷
    case (over_a (clay 2000 140)) (head_at 0) (five 213600 268605 402626 671231 322100) ∷
    -- a millimetre at the ground; the slice below it begins in the first metre and is read below it
    case (over_a (clay 1 137)) (head_at 0) (bars ((0 ∷ 1 ∷ 1740 ∷ 6 ∷ []) ∷ (1 ∷ 2000 ∷ 4601400 ∷ 6 ∷ []) ∷ (2001 ∷ 2000 ∷ 7000600 ∷ 6 ∷ []) ∷ (4001 ∷ 2000 ∷ 8000400 ∷ 6 ∷ []) ∷ (6001 ∷ 2000 ∷ 8600200 ∷ 6 ∷ []) ∷ (8001 ∷ 1999 ∷ 9000100 ∷ 6 ∷ []) ∷ [])) ∷
    case (over_a (clay 1 137)) (head_at 0) (five 223189 268605 420700 689305 336560) ∷
    -- fine sand; four strata of the other kinds, in a rectangle by method 3; and a tip in sand
    case (over_a (fine_sand 1001 ∷ [])) (head_at 0) (five 220149 268605 414970 683575 331976) ∷
    case (over_a (row 150 1 100 95 ∷ row 201 5 155 95 ∷ row 250 3 100 95 ∷ row 399 4 90 95 ∷ [])) wide_from_ground (bars ((0 ∷ 150 ∷ 525000 ∷ 8 ∷ []) ∷ (150 ∷ 201 ∷ 501000 ∷ 8 ∷ []) ∷ (351 ∷ 250 ∷ 1428000 ∷ 8 ∷ []) ∷ (601 ∷ 399 ∷ 5603500 ∷ 8 ∷ []) ∷ (1000 ∷ 2000 ∷ 6000000 ∷ 7 ∷ []) ∷ (3000 ∷ 2000 ∷ 7600000 ∷ 7 ∷ []) ∷ (5000 ∷ 2000 ∷ 8400000 ∷ 7 ∷ []) ∷ (7000 ∷ 2000 ∷ 8800000 ∷ 7 ∷ []) ∷ (9000 ∷ 1000 ∷ 9100000 ∷ 7 ∷ []) ∷ [])) ∷
    case (over_a (row 150 1 100 95 ∷ row 201 5 155 95 ∷ row 250 3 100 95 ∷ row 399 4 90 95 ∷ [])) wide_from_ground (five 258538 304000 620491 924491 496392) ∷
    case_with (sand_record 3000 10000 18000) (sand_of 1001 3 ++ sand_of 30000 1) (head_at 0) (five 351208 220598 662010 882608 529608) ∷
    -- "as read": a fill of 3,000 moves nothing, one of 3,200 every reading by 200, one of 5,000 takes the slice out of the first metre; no cut up to
    -- 3,000 moves a reading
    case (over_a (clay 1001 140)) (with_grade (filled 3000) (head_at 0)) (five 216592 268605 408265 676870 326612) ∷
    case (over_a (clay 1001 140)) (with_grade (filled 3200) (head_at 0)) (bars ((0 ∷ 1001 ∷ 2101500 ∷ 6 ∷ []) ∷ (1001 ∷ 2000 ∷ 6201000 ∷ 6 ∷ []) ∷ (3001 ∷ 2000 ∷ 7680400 ∷ 6 ∷ []) ∷ (5001 ∷ 2000 ∷ 8440200 ∷ 6 ∷ []) ∷ (7001 ∷ 2000 ∷ 8840200 ∷ 6 ∷ []) ∷ (9001 ∷ 999 ∷ 9140100 ∷ 6 ∷ []) ∷ [])) ∷
    case (over_a (clay 1001 140)) (with_grade (filled 3200) (head_at 0)) (five 220674 272847 415960 688807 332768) ∷
    case (over_a (clay 1001 140)) (with_grade (filled 5000) (head_at 0)) (five 246292 311017 464249 775266 371399) ∷
    case (over_a (clay 1001 140)) (in_cut 500 500 10000) (bars ((500 ∷ 501 ∷ 2251500 ∷ 6 ∷ []) ∷ lower_bars)) ∷
    case (over_a (clay 1001 140)) (in_cut 500 500 10000) (five 215467 268605 406145 674750 324916) ∷
    []
