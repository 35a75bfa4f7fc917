-- Cases A to L of document 01 hold of the definitions, each with its whole reply: one table, one theorem.
use Rattle.rules.specs.declared.SandNumbers.{SandNumbers}
use Rattle.std.specs.Prelude.{Option, None}
use mathlib.Core.Path.{◌≡◌, refl, sym, ◌∙◌, ap, ap₂}
use mathlib.Core.Bool.{Bool, true}
use mathlib.Core.List.{List, [], ◌∷◌, map, ◌++◌}
use Prim.Native.Nat.{ℕ}
use lib.Dec.{ltb, T, ltb→lt}
use lib.ListN.{take, replicate}
use Rattle.rules.specs.declared.Row.{Row}
use Rattle.rules.specs.declared.Pile.{Pile}
use Rattle.rules.specs.declared.Slice.{Slice}
use Rattle.rules.specs.declared.Answer.{Answer}
use Rattle.rules.specs.Base.{pick, both, refuses, when, first, all_zero}
use Rattle.rules.specs.Records.{slice_size, slice_fields}
use Rattle.rules.specs.Limits.{table_size, limit_of}
use Rattle.rules.specs.Grades.{cut_depth, fill_height}
use Rattle.rules.specs.Packed.{number_at, rows_from, rows_of, pile_of, row_bytes, pile_bytes, slice_bytes, places_bytes, log_for, slices_bytes, table_bytes}
use Rattle.rules.specs.Ground.{depth_of, same, soil_at}
use Rattle.rules.specs.Tables.{row_for, spot_of, weighed, friction_at, dash_at, tip_at}
use Rattle.rules.specs.SandTips.{on_scale, at_angle, of_tenths, of_hundredths, width_term, depth_term, sand_formula, sand_cap, sand_resistance}
use Rattle.rules.specs.Numbers.{friction, factor, slice_of, slice_each, friction_sum, tip_read, resistance, tip_force, shaft_force, capacity_of, uplift_of}
use Rattle.rules.specs.Checks.{unused_wrong, wrong_field, first_wrong, wrong_pile_field, section_check, lent_checks}
use Rattle.rules.specs.Answers.{refused, numbers}
use Rattle.rules.specs.Calculation.{held_slices_of, fresh_answer, fresh_table, calculated, table_after}
use Rattle.rules.specs.Sheet.{digits_from, spaced, answer_line, slice_line, slice_lines, total_line, sheet_of, input_limit, input_log, input_pile, sheet_text}
use Rattle.rules.specs.Cases.{Shown, five, refused_by, kPa, pa, bars, log_hex, pile_hex, first_slice, sheet, Case, joined, log_in, pile_record, blank_table, resistance_in, reply_of, worked, work, print, cases}
use Rattle.rules.proofs.Groups.{pile_checks, early, late, checks_from, answer_from, slices_from}
use Rattle.rules.proofs.ByRows.{Positive, lead, extent, cuts, top_from, answer_rows, slices_rows}
use Rattle.rules.proofs.TableLaws.{both_left, both_right}
use Rattle.rules.proofs.AnswerLaws.{answer_by_rows, slices_by_rows}

-- no row of 0 mm
abbrev pub positive : List Row → Bool
positive [] = true
positive (r ∷ rs) = both (ltb 0 r.thickness) (positive rs)

pub are_positive : (rs : List Row) → T (positive rs) → Positive rs
are_positive [] t = tt
are_positive (r ∷ rs) t = (ltb→lt 0 r.thickness (both_left (ltb 0 r.thickness) (positive rs) t), are_positive rs (both_right (ltb 0 r.thickness) (positive rs) t))

-- a calculation, its table and its sheet with the work done along the rows
abbrev calculated_rows : List ℕ → List ℕ → Option SandNumbers → List ℕ → Answer
calculated_rows log pile extra table = let r = lent_checks log pile table in pick (refuses r) (refused r) (answer_rows (rows_of log) (pile_of pile) extra)

abbrev table_rows : List ℕ → List ℕ → Option SandNumbers → List ℕ → List ℕ
table_rows log pile extra table = pick (refuses (lent_checks log pile table)) table (table_bytes (table_size (limit_of log)) (slices_rows (rows_of log) (pile_of pile) extra))

module _ (log pile : List ℕ) (extra : Option SandNumbers) (table : List ℕ) (w : Positive (rows_of log)) where
  calculated_rows_lem : calculated log pile extra table ≡ calculated_rows log pile extra table
  unfolding calculated fresh_answer
  calculated_rows_lem = let r = lent_checks log pile table in ap (λ (a : Answer). pick (refuses r) (refused r) a) (sym (answer_by_rows (rows_of log) (pile_of pile) extra w))

  table_rows_lem : table_after log pile extra table ≡ table_rows log pile extra table
  unfolding table_after fresh_table
  table_rows_lem = ap (λ (l : List Slice). pick (refuses (lent_checks log pile table)) table (table_bytes (table_size (limit_of log)) l)) (sym (slices_by_rows (rows_of log) (pile_of pile) extra w))

  slices_rows_lem : held_slices_of (rows_of log) (pile_of pile) extra ≡ slices_rows (rows_of log) (pile_of pile) extra
  slices_rows_lem = sym (slices_by_rows (rows_of log) (pile_of pile) extra w)

abbrev sheet_rows : List ℕ → List ℕ
sheet_rows input = let n = input_limit input in sheet_of (calculated_rows (input_log n input) (input_pile n input) None (replicate (table_size n) 0)) (slices_rows (rows_of (input_log n input)) (pile_of (input_pile n input)) None)

sheet_rows_lem : (input : List ℕ) → Positive (rows_of (input_log (input_limit input) input)) → sheet_text input ≡ sheet_rows input
unfolding sheet_text
sheet_rows_lem input w = let n = input_limit input in ap₂ sheet_of (calculated_rows_lem (input_log n input) (input_pile n input) None (replicate (table_size n) 0) w) (slices_rows_lem (input_log n input) (input_pile n input) None blank_table w)

-- the log of a sheet's input
abbrev given : List Row → Pile → List ℕ
given rs p = input_log (input_limit (log_in rs ++ pile_record p)) (log_in rs ++ pile_record p)

abbrev rowed : Shown → List Row → Pile → Option SandNumbers → List ℕ
rowed (five l t s c u) rs p extra = reply_of (calculated_rows (log_in rs) (pile_record p) extra blank_table)
rowed (refused_by n) rs p extra = reply_of (calculated_rows (log_in rs) (pile_record p) extra blank_table)
rowed (kPa r) rs p extra = (calculated_rows (log_in rs) (pile_record p) extra blank_table).refusal.number ∷ resistance_in rs p extra ∷ []
rowed (pa r) rs p extra = (calculated_rows (log_in rs) (pile_record p) extra blank_table).refusal.number ∷ resistance_in rs p extra ∷ []
rowed (bars l) rs p extra = (calculated_rows (log_in rs) (pile_record p) extra blank_table).refusal.number ∷ joined (map slice_fields (slices_rows (rows_of (log_in rs)) (pile_of (pile_record p)) extra))
rowed (log_hex l) rs p extra = log_in rs
rowed (pile_hex l) rs p extra = pile_record p
rowed (first_slice l) rs p extra = take slice_size (table_rows (log_in rs) (pile_record p) extra blank_table)
rowed (sheet l) rs p extra = sheet_rows (log_in rs ++ pile_record p)

row_work_lem : (s : Shown) (rs : List Row) (p : Pile) (extra : Option SandNumbers) → Positive (rows_of (log_in rs)) → Positive (rows_of (given rs p)) → worked s rs p extra ≡ rowed s rs p extra
row_work_lem (five l t s c u) rs p extra w v = ap reply_of (calculated_rows_lem (log_in rs) (pile_record p) extra blank_table w)
row_work_lem (refused_by n) rs p extra w v = ap reply_of (calculated_rows_lem (log_in rs) (pile_record p) extra blank_table w)
row_work_lem (kPa r) rs p extra w v = ap (λ (a : Answer). a.refusal.number ∷ resistance_in rs p extra ∷ []) (calculated_rows_lem (log_in rs) (pile_record p) extra blank_table w)
row_work_lem (pa r) rs p extra w v = ap (λ (a : Answer). a.refusal.number ∷ resistance_in rs p extra ∷ []) (calculated_rows_lem (log_in rs) (pile_record p) extra blank_table w)
row_work_lem (bars l) rs p extra w v =
    ap₂ (λ (a : Answer) (t : List Slice). a.refusal.number ∷ joined (map slice_fields t)) (calculated_rows_lem (log_in rs) (pile_record p) extra blank_table w) (slices_rows_lem (log_in rs) (pile_record p) extra blank_table w)
row_work_lem (log_hex l) rs p extra w v = refl
row_work_lem (pile_hex l) rs p extra w v = refl
row_work_lem (first_slice l) rs p extra w v = ap (take slice_size) (table_rows_lem (log_in rs) (pile_record p) extra blank_table w)
row_work_lem (sheet l) rs p extra w v = sheet_rows_lem (log_in rs ++ pile_record p) v

abbrev ready : List Case → Bool
ready [] = true
ready (c ∷ cs) = both (both (positive (rows_of (log_in c.rows))) (positive (rows_of (given c.rows c.pile)))) (ready cs)

abbrev row_work : Case → List ℕ
row_work c = rowed c.shown c.rows c.pile c.extra

all_rows : (cs : List Case) → T (ready cs) → map work cs ≡ map row_work cs
all_rows [] t = refl
all_rows (c ∷ cs) t =
    let a : List Row = rows_of (log_in c.rows) in
    let b : List Row = rows_of (given c.rows c.pile) in
    let h : T (both (positive a) (positive b)) = both_left (both (positive a) (positive b)) (ready cs) t in
    ap₂ (λ (x : List ℕ) (xs : List (List ℕ)). x ∷ xs)
    (row_work_lem c.shown c.rows c.pile c.extra (are_positive a (both_left (positive a) (positive b) h)) (are_positive b (both_right (positive a) (positive b) h)))
    (all_rows cs (both_right (both (positive a) (positive b)) (ready cs) t))

all_ready : T (ready cases)
unfolding input_limit number_at rows_from rows_of row_bytes places_bytes log_for pile_bytes
all_ready = tt

by_computing : map row_work cases ≡ map print cases
unfolding limit_of input_limit when first all_zero number_at rows_from rows_of pile_of row_bytes pile_bytes slice_bytes places_bytes log_for slices_bytes table_bytes unused_wrong wrong_field first_wrong depth_of wrong_pile_field section_check same soil_at row_for spot_of weighed friction_at dash_at tip_at friction factor slice_of slice_each friction_sum tip_read resistance tip_force shaft_force capacity_of uplift_of early late pile_checks checks_from numbers answer_from slices_from lent_checks digits_from spaced answer_line slice_line slice_lines total_line sheet_of lead extent cuts top_from answer_rows slices_rows cut_depth fill_height on_scale at_angle of_tenths of_hundredths width_term depth_term sand_formula sand_cap sand_resistance
by_computing = refl

-- Every number that document 01 prints for its cases A to L, and the rest of each reply, is what the definitions give.
pub known_numbers : map work cases ≡ map print cases
known_numbers = all_rows cases all_ready ∙ by_computing
