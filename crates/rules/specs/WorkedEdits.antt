-- Worked edits: each of the four kinds accepted, one on a graded site, refusals 13, 14, 3 and 4 once each, and accepted edits that hold a
-- refusal of the pile, and one that brings the record of a sand tip. Every reply, log and table is from the second program (second/).
use Rattle.rules.specs.declared.SandNumbers.{SandNumbers}
use Rattle.std.specs.Prelude.{List, [], ◌∷◌, map, ℕ, replicate, Option, None}
use Rattle.rules.specs.declared.Row.{Row}
use Rattle.rules.specs.declared.Pile.{Pile}
use Rattle.rules.specs.declared.Slice.{Slice}
use Rattle.rules.specs.Records.{slice_from}
use Rattle.rules.specs.Grades.{with_grade}
use Rattle.rules.specs.Limits.{row_limit, table_size}
use Rattle.rules.specs.Packed.{row_bytes, table_bytes}
use Rattle.rules.specs.Edits.{Edit, asked}
use Rattle.rules.specs.EditReplies.{edit_reply, edit_log, edit_table}
use Rattle.rules.specs.Cases.{log_in, pile_record, reply_of, row, clay, fine_sand, filled, pile_a, bars_a, sand_record}

pub record WorkedEdit : Type 0 where
  pub edit : Edit
  -- what is lent: the log's rows, the pile and its extra record, the table's slices
  pub rows : List Row
  pub pile : Pile
  pub extra : Option SandNumbers
  pub lent : List Slice
  -- refusal number, row, field; kept; line, tip, shaft, capacity, uplift
  pub reply : List ℕ
  -- the log and the table afterwards
  pub rows_after : List Row
  pub slices_after : List Slice

abbrev pub table_of : List Slice → List ℕ
table_of cs = table_bytes (table_size row_limit) cs

-- the reply, then every byte of the log and of the table: what is right
abbrev pub right_after : WorkedEdit → List (List ℕ)
right_after c = c.reply ∷ log_in c.rows_after ∷ table_of c.slices_after ∷ []

-- and what the definitions give
abbrev pub found_after : WorkedEdit → List (List ℕ)
found_after c =
    let log = log_in c.rows in
    let pile = pile_record c.pile in
    let table = table_of c.lent in
    reply_of (edit_reply c.edit log pile c.extra table) ∷ edit_log c.edit log pile table ∷ edit_table c.edit log pile c.extra table ∷ []

abbrev pub replace : ℕ → Row → Edit
replace k r = asked 1 k 0 (row_bytes r)

abbrev pub insert : ℕ → Row → Edit
insert k r = asked 2 k 0 (row_bytes r)

abbrev pub remove : ℕ → Edit
remove k = asked 3 k 0 []

abbrev pub split : ℕ → ℕ → Edit
split k x = asked 4 k x []

abbrev pub slice : ℕ → ℕ → ℕ → ℕ → Slice
slice a t f m = record { top = a; thickness = t; friction = f; factor = m }

-- the log and the slices of case G
abbrev pub rows_g : List Row
rows_g = fine_sand 4000 ∷ clay 16000 130

abbrev pub slices_g : List Slice
slices_g = slice 1000 2000 6000000 7 ∷ slice 3000 1000 7300000 7 ∷ slice 4000 2000 8000000 6 ∷ slice 6000 2000 8600000 6 ∷ slice 8000 2000 9000000 6 ∷ []

-- an edit of these rows for a pile with this extra record, G's slices lent; its reply, and the log and the table it leaves
abbrev pub worked_with : Option SandNumbers → Pile → Edit → List Row → List ℕ → List Row → List Slice → WorkedEdit
worked_with extra p e rs reply now cs = record { edit = e; rows = rs; pile = p; extra = extra; lent = slices_g; reply = reply; rows_after = now; slices_after = cs }

-- without one
abbrev pub worked_for : Pile → Edit → List Row → List ℕ → List Row → List Slice → WorkedEdit
worked_for p e rs reply now cs = worked_with None p e rs reply now cs

-- for A's pile
abbrev pub worked_edit : Edit → List Row → List ℕ → List Row → List Slice → WorkedEdit
worked_edit e rs reply now cs = worked_for pile_a e rs reply now cs

-- refused by a number, with row and field: "A refused edit .. changes no buffer."
abbrev pub refused_edit : Edit → List Row → ℕ → ℕ → ℕ → WorkedEdit
refused_edit e rs n r f = worked_edit e rs (n ∷ r ∷ f ∷ 0 ∷ 0 ∷ 0 ∷ 0 ∷ 0 ∷ 0 ∷ []) rs slices_g

abbrev pub worked_edits : List WorkedEdit
worked_edits =
    -- the clay of G at index 0.35: the slices of the sand are kept
    worked_edit (replace 2 (row 16000 6 135 95)) rows_g
    (0 ∷ 0 ∷ 0 ∷ 2 ∷ 201050 ∷ 247400 ∷ 378970 ∷ 626370 ∷ 303176 ∷ [])
    (fine_sand 4000 ∷ clay 16000 135)
    (slice 1000 2000 6000000 7 ∷ slice 3000 1000 7300000 7 ∷ slice 4000 2000 6900000 6 ∷ slice 6000 2000 7500000 6 ∷ slice 8000 2000 7850000 6 ∷ []) ∷
    -- 02 (i), the same on a fill of 5,000: every friction is read deeper than in the lent table, and no slice is kept
    worked_for (with_grade (filled 5000) pile_a) (replace 2 (row 16000 6 135 95)) rows_g
    (0 ∷ 0 ∷ 0 ∷ 0 ∷ 223080 ∷ 289811 ∷ 420495 ∷ 710306 ∷ 336396 ∷ [])
    (fine_sand 4000 ∷ clay 16000 135)
    (slice 1000 2000 7600000 7 ∷ slice 3000 1000 8200000 7 ∷ slice 4000 2000 7500000 6 ∷ slice 6000 2000 7850000 6 ∷ slice 8000 2000 8180000 6 ∷ []) ∷
    -- 2,000 of loam between the two: kept "stops at the first slice whose bytes differ", though the last two are as lent
    worked_edit (insert 2 (row 2000 5 140 95)) rows_g
    (0 ∷ 0 ∷ 0 ∷ 2 ∷ 213750 ∷ 268605 ∷ 402908 ∷ 671513 ∷ 322326 ∷ [])
    (fine_sand 4000 ∷ row 2000 5 140 95 ∷ clay 16000 130)
    (slice 1000 2000 6000000 7 ∷ slice 3000 1000 7300000 7 ∷ slice 4000 2000 5800000 7 ∷ slice 6000 2000 8600000 6 ∷ slice 8000 2000 9000000 6 ∷ []) ∷
    -- the sand away: as A
    worked_edit (remove 1) rows_g (0 ∷ 0 ∷ 0 ∷ 0 ∷ 212100 ∷ 268605 ∷ 399798 ∷ 668403 ∷ 319838 ∷ []) (clay 16000 130) (map slice_from bars_a) ∷
    -- the clay in two parts of the same soil: as G, every slice kept
    worked_edit (split 2 3000) rows_g (0 ∷ 0 ∷ 0 ∷ 5 ∷ 221150 ∷ 268605 ∷ 416857 ∷ 685462 ∷ 333485 ∷ []) (fine_sand 4000 ∷ row 3000 6 130 95 ∷ clay 13000 130) slices_g ∷
    -- 13: the only row
    refused_edit (remove 1) (clay 20000 130) 13 0 0 ∷
    -- 14: a split of one of 64 rows
    refused_edit (split 64 100) (replicate 64 (row 500 6 130 95)) 14 0 0 ∷
    -- 3: saturation 101 in the new row 2
    refused_edit (insert 2 (row 2000 5 140 101)) rows_g 3 2 4 ∷
    -- 4: a log of 60,001 mm
    refused_edit (insert 1 (fine_sand 40001)) rows_g 4 0 0 ∷
    -- sand just below the tip, and no record: the edit is accepted and holds 9; "the table becomes all zero; the log holds the edit"
    worked_edit (replace 2 (fine_sand 16000)) rows_g (9 ∷ 0 ∷ 0 ∷ 0 ∷ 0 ∷ 0 ∷ 0 ∷ 0 ∷ 0 ∷ []) (fine_sand 4000 ∷ fine_sand 16000 ∷ []) [] ∷
    -- 02 (iv), the same with a record: its numbers, by the record that the edit brings
    worked_with (sand_record 3000 10000 18000) pile_a (replace 2 (fine_sand 16000)) rows_g
    (0 ∷ 0 ∷ 0 ∷ 1 ∷ 247450 ∷ 220598 ∷ 466431 ∷ 687029 ∷ 373144 ∷ [])
    (fine_sand 4000 ∷ fine_sand 16000 ∷ [])
    (slice 1000 2000 6000000 7 ∷ slice 3000 2000 7600000 7 ∷ slice 5000 2000 8400000 7 ∷ slice 7000 2000 8800000 7 ∷ slice 9000 1000 9100000 7 ∷ []) ∷
    -- and with one that is out of range: the edit is accepted and holds 17
    worked_with (sand_record 2555 10000 18000) pile_a (replace 2 (fine_sand 16000)) rows_g (17 ∷ 0 ∷ 0 ∷ 0 ∷ 0 ∷ 0 ∷ 0 ∷ 0 ∷ 0 ∷ []) (fine_sand 4000 ∷ fine_sand 16000 ∷ []) [] ∷
    []
