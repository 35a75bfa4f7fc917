-- Checks 1 to 14 and 17 of documents 01 and 02, by their numbers, each with its sentence; then which of them a call makes, in order.
use Rattle.rules.specs.declared.SandNumbers.{SandNumbers}
use Rattle.std.specs.Prelude.{◌≡◌, Bool, true, false, ◌⊎◌, List, [], ◌∷◌, ◌++◌, ℕ, ◌+◌, ◌*◌, ◌-◌, max, ltb, leb, eqb, length, drop, Option, None, Some}
use Rattle.rules.specs.declared.Refusal.{Refusal}
use Rattle.rules.specs.declared.Row.{Row}
use Rattle.rules.specs.declared.Soil.{Soil}
use Rattle.rules.specs.declared.Pile.{Pile}
use Rattle.rules.specs.Base.{pick, both, either, neg, within, nothing, refuses, when, in_order, all_zero}
use Rattle.rules.specs.Records.{row_size, plain_size, graded_size}
use Rattle.rules.specs.Limits.{limit_of, table_size, thickness_limit, depth_limit, tip_limit}
use Rattle.rules.specs.Grades.{cut_depth}
use Rattle.rules.specs.Packed.{count_of, row_at, rows_of, pile_of}
use Rattle.rules.specs.Ground.{soil_at, depth_of}
use Rattle.rules.specs.Pieces.{run_top}
use Rattle.rules.specs.SandTips.{reduced}
use Rattle.rules.specs.Numbers.{sand, below_tip, tip_of, tip_from_cut, tip_read, is_dash}
use Rattle.rules.specs.Edits.{Edit, brings, grows, stands, edited_rows}

-- 1: "a lent piece has the wrong length"
abbrev pub long_other : ℕ → List ℕ → Bool
long_other n s = neg (eqb (length s) n)

-- 1 of a log: no form has its length (it is not 321 bytes long)
abbrev pub formless : List ℕ → Bool
formless log = eqb (limit_of log) 0

-- 1 of a pile record: it has neither 8 bytes nor, 02 (i), 10
abbrev pub pile_length_wrong : List ℕ → Bool
pile_length_wrong pile = both (long_other plain_size pile) (long_other graded_size pile)

-- of the pieces of a calculation: the log has the length of a form, the pile record one of its two, the table the length that goes with that form
abbrev pub lengths_wrong : List ℕ → List ℕ → List ℕ → Bool
lengths_wrong log pile table = either (formless log) (either (pile_length_wrong pile) (long_other (table_size (limit_of log)) table))

-- of those of an edit, with the new row where its kind brings one, "as its five packed bytes (another length is refusal 1)": "what an edit's
-- kind doesn't use is not looked at"
abbrev pub edit_lengths_wrong : Edit → List ℕ → List ℕ → List ℕ → Bool
edit_lengths_wrong e log pile table = either (lengths_wrong log pile table) (both (brings e.kind) (long_other row_size e.row))

-- 2: "count 0 or over 64, or an unused row place not zero"
abbrev pub count_wrong : ℕ → ℕ → Bool
count_wrong limit n = either (eqb n 0) (ltb limit n)

unfoldable pub unused_wrong : List ℕ → Bool
unused_wrong s = let blank = all_zero (drop (1 + count_of s * row_size) s) in either (count_wrong (limit_of s) (count_of s)) (neg blank)

-- "kind: 1 coarse or medium sand, 2 fine sand, 3 silty sand, 4 sandy loam, 5 loam, 6 clay"
-- "Kinds 4 to 6: 0 to 200. Kinds 1 to 3: exactly 100"
abbrev pub index_in_range : ℕ → ℕ → Bool
index_in_range kind index = pick (leb kind 3) (eqb index 100) (leb index 200)

-- the lowest field out of range: thickness 1 to 60,000; kind 1 to 6; index; saturation 0 to 100; zero. 0 where there is none
unfoldable pub wrong_field : Row → ℕ
wrong_field r =
    let five : ℕ = pick (eqb r.zero 0) 0 5 in
    let four : ℕ = pick (leb r.saturation 100) five 4 in
    let three : ℕ = pick (index_in_range r.kind r.index) four 3 in
    let two : ℕ = pick (within 1 6 r.kind) three 2 in
    pick (within 1 thickness_limit r.thickness) two 1

-- 3: "a row's field out of range; gives row and field, first row first, lowest field first"; the first of the rows is row k
unfoldable pub first_wrong : ℕ → List Row → Refusal
first_wrong k [] = nothing
first_wrong k (r ∷ rs) =
    let f = wrong_field r in
    let on = first_wrong (k + 1) rs in
    pick (ltb 0 f) (record { number = 3; row = k; field = f }) on

-- "then 3 for its new row (row number k)"
unfoldable pub new_row_check : Edit → Refusal
new_row_check e =
    let f = wrong_field (row_at e.row 0) in
    pick (both (brings e.kind) (ltb 0 f)) (record { number = 3; row = e.k; field = f }) nothing

-- 4: "log over 60,000 mm"
abbrev pub too_deep : List Row → Bool
too_deep rs = ltb depth_limit (depth_of rs)

-- "Circle: a is the diameter, 150 to 2,000, and b is 0. Rectangle: each side 300 to 4,000."
abbrev pub a_in_range : Pile → Bool
a_in_range p = pick (eqb p.section 1) (within 150 2000 p.a) (within 300 4000 p.a)

abbrev pub b_in_range : Pile → Bool
b_in_range p = pick (eqb p.section 1) (eqb p.b 0) (within 300 4000 p.b)

-- 5: "section kind, a, b or the zero bits wrong; gives field 1 to 4 in that order, row 0"
unfoldable pub wrong_pile_field : Pile → ℕ
wrong_pile_field p =
    let four : ℕ = pick (eqb p.zero 0) 0 4 in
    let three : ℕ = pick (b_in_range p) four 3 in
    let two : ℕ = pick (a_in_range p) three 2 in
    pick (within 1 2 p.section) two 1

unfoldable pub section_check : Pile → Refusal
section_check p = let f = wrong_pile_field p in pick (ltb 0 f) (record { number = 5; row = 0; field = f }) nothing

-- 6: "method 0, or over 3 where fields are packed"
abbrev pub method_wrong : Pile → Bool
method_wrong p = neg (within 1 3 p.method)

-- 7: "head not above tip, or tip under 3,000 or over 40,000"; 02 (i): "also when the head is above the cut level, or the tip's depth as read is
-- over 40,000"
abbrev pub depths_wrong : Pile → Bool
depths_wrong p =
    either (leb p.tip p.head)
    (either (ltb p.tip 3000)
    (either (ltb tip_limit p.tip)
    (either (ltb p.head (cut_depth p.grade))
    (ltb tip_limit (tip_of p)))))

-- 8: "log ends less than 5,000 below the tip"
abbrev pub log_short : ℕ → Pile → Bool
log_short depth p = ltb depth (p.tip + 5000)

-- 9: 02 (iv): "now means a sand tip without the record or in a rectangle"
abbrev pub absent : Option SandNumbers → Bool
absent None = true
absent (Some b) = false

abbrev pub sand_unread : Soil → Pile → Option SandNumbers → Bool
sand_unread s p extra = both (sand s) (either (absent extra) (eqb p.section 2))

-- 10: "seat too short: tip less the deeper of head and tip-stratum top is under 2,000, or under the diameter or longer side"
abbrev pub seat_of : ℕ → Pile → ℕ
seat_of top p = p.tip - max p.head top

abbrev pub seat_short : ℕ → Pile → Bool
seat_short top p = either (ltb (seat_of top p) 2000) (ltb (seat_of top p) (max p.a p.b))

-- 17: 02 (iv): "after 10 and with the effect of 10, an angle under 23 or over 39 degrees after the 0.9, a unit weight of 0 or over 30,000, or
-- h/d under 4": of a record that is given, for a circle of diameter a
abbrev pub record_wrong : Pile → Option SandNumbers → Bool
record_wrong p None = false
record_wrong p (Some b) =
    either (neg (within 23000 39000 (reduced b.angle)))
    (either (neg (within 1 30000 b.below))
    (either (neg (within 1 30000 b.above))
    (ltb (tip_from_cut p) (4 * p.a))))

abbrev pub sand_wrong : Soil → Pile → Option SandNumbers → Bool
sand_wrong s p extra = both (sand s) (record_wrong p extra)

-- 11: "tip liquidity index over 0.60", stored "in hundredths plus 100"; 02 (iv), of a sand tip: "11 and 12 don't apply to it"
abbrev pub too_soft : Soil → Bool
too_soft s = both (neg (sand s)) (ltb 160 s.index)

-- 12: "a dash in table 7.8 would be read with a weight above zero"
abbrev pub dashed : Soil → Pile → Bool
dashed s p = both (neg (sand s)) (is_dash (tip_read (tip_of p) s.index))

-- 13: "edit is none of the four kinds, names no such row or split point, or removes the only row"
abbrev pub names_nothing : Edit → List ℕ → Bool
names_nothing e log = neg (stands e (rows_of log))

-- 14: "insert or split with 64 rows": as many as the form has
abbrev pub full : ℕ → ℕ → ℕ → Bool
full kind limit count = both (grows kind) (leb limit count)

-- 01's list has one more, of more slices than places; 02 (iii): it "is withdrawn, its number not given out again."

-- "Checks 1 to 4 are the log checks; 1 looks at every lent piece that the call uses."
abbrev pub one_to_four : Bool → List ℕ → List Refusal
one_to_four wrong log = when wrong 1 ∷ when (unused_wrong log) 2 ∷ first_wrong 1 (rows_of log) ∷ when (too_deep (rows_of log)) 4 ∷ []

-- of a pile in a ground g that is `depth` deep, with the extra record that comes with it
abbrev pub five_on : (ℕ → Soil) → ℕ → Pile → Option SandNumbers → List Refusal
five_on g depth p extra =
    let soil = g (below_tip p) in
    section_check p ∷
    when (method_wrong p) 6 ∷
    when (depths_wrong p) 7 ∷
    when (log_short depth p) 8 ∷
    when (sand_unread soil p extra) 9 ∷
    when (seat_short (run_top g soil (below_tip p)) p) 10 ∷
    when (sand_wrong soil p extra) 17 ∷
    when (too_soft soil) 11 ∷
    when (dashed soil p) 12 ∷
    []

-- of an edit: 13, 14, "then 3 for its new row (row number k), then 4 for the new log"
abbrev pub thirteen_on : Edit → List ℕ → List Refusal
thirteen_on e log =
    when (names_nothing e log) 13 ∷
    when (full e.kind (limit_of log) (length (rows_of log))) 14 ∷
    new_row_check e ∷
    when (too_deep (edited_rows e (rows_of log))) 4 ∷
    []

-- 1 to 4 of what a calculation is lent
unfoldable pub lent_checks : List ℕ → List ℕ → List ℕ → Refusal
lent_checks log pile table = in_order (one_to_four (lengths_wrong log pile table) log)

-- 5 to 12, with 17 after 10
unfoldable pub ground_checks : (ℕ → Soil) → ℕ → Pile → Option SandNumbers → Refusal
ground_checks g depth p extra = in_order (five_on g depth p extra)

-- "A calculation checks 1 to 12 .. in order.", 17 "after 10"
unfoldable pub calculation_checks : List ℕ → List ℕ → Option SandNumbers → List ℕ → Refusal
calculation_checks log pile extra table =
    in_order (one_to_four (lengths_wrong log pile table) log ++ five_on (soil_at (rows_of log)) (depth_of (rows_of log)) (pile_of pile) extra)

-- "An edit checks 1 to 4 of what is lent, 13, 14, then 3 for its new row (row number k), then 4 for the new log; these refuse the edit."
unfoldable pub edit_checks : Edit → List ℕ → List ℕ → List ℕ → Refusal
edit_checks e log pile table = in_order (one_to_four (edit_lengths_wrong e log pile table) log ++ thirteen_on e log)

-- 1 to 4 of a log alone, where no other piece is lent
unfoldable pub log_checks : List ℕ → Refusal
log_checks log = in_order (one_to_four (formless log) log)

-- a log past its checks
abbrev pub Passed : List ℕ → Type 0
Passed log = refuses (log_checks log) ≡ false

-- lent pieces past checks 1 to 4
abbrev pub LentPassed : List ℕ → List ℕ → List ℕ → Type 0
LentPassed log pile table = refuses (lent_checks log pile table) ≡ false

-- an edit that its checks do not refuse
abbrev pub Accepted : Edit → List ℕ → List ℕ → List ℕ → Type 0
Accepted e log pile table = refuses (edit_checks e log pile table) ≡ false

-- each check of a list refuses with its own number, or tells nothing
abbrev pub Numbered : List ℕ → List Refusal → Type 0
Numbered [] [] = Unit {0}
Numbered [] (r ∷ rs) = ⊥
Numbered (n ∷ ns) [] = ⊥
Numbered (n ∷ ns) (r ∷ rs) = ((r.number ≡ n) ⊎ (r ≡ nothing)) × Numbered ns rs

-- one of these numbers
abbrev pub OneOf : List ℕ → ℕ → Type 0
OneOf [] x = ⊥
OneOf (n ∷ ns) x = (x ≡ n) ⊎ OneOf ns x
