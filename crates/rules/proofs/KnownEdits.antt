-- The worked edits hold of the definitions: one table, one theorem.
use mathlib.Core.Path.{◌≡◌, refl, sym, ◌∙◌, ap₂}
use mathlib.Core.Bool.{Bool, true, false}
use mathlib.Core.List.{List, [], ◌∷◌, map}
use Prim.Native.Nat.{ℕ}
use lib.Dec.{T}
use lib.ListN.{length}
use Rattle.rules.specs.declared.Row.{Row}
use Rattle.rules.specs.declared.Pile.{Pile}
use Rattle.rules.specs.declared.Slice.{Slice}
use Rattle.rules.specs.declared.Answer.{Answer}
use Rattle.rules.specs.declared.Refusal.{Refusal}
use Rattle.rules.specs.Base.{pick, both, either, refuses, when, first, all_zero}
use Rattle.rules.specs.Limits.{table_size, limit_of}
use Rattle.rules.specs.Grades.{cut_depth, fill_height}
use Rattle.rules.specs.Packed.{number_at, rows_from, rows_of, pile_of, row_bytes, pile_bytes, slice_bytes, places_bytes, log_for, slices_bytes, table_bytes}
use Rattle.rules.specs.Ground.{depth_of, same, soil_at}
use Rattle.rules.specs.Tables.{row_for, spot_of, weighed, friction_at, dash_at, tip_at}
use Rattle.rules.specs.SandTips.{on_scale, at_angle, of_tenths, of_hundredths, width_term, depth_term, sand_formula, sand_cap, sand_resistance}
use Rattle.rules.specs.Numbers.{friction, factor, slice_of, slice_each, friction_sum, tip_read, resistance, tip_force, shaft_force, capacity_of, uplift_of}
use Rattle.rules.specs.Edits.{stands, edited_rows, edited_log}
use Rattle.rules.specs.Checks.{unused_wrong, wrong_field, first_wrong, new_row_check, wrong_pile_field, section_check, edit_checks}
use Rattle.rules.specs.Answers.{refused, numbers}
use Rattle.rules.specs.Calculation.{answer_of, held_slices_of, fresh_answer, fresh_table}
use Rattle.rules.specs.EditReplies.{same_bytes, kept, with_kept, edit_answer, edit_reply, edit_log, edit_table}
use Rattle.rules.specs.Cases.{log_in, pile_record, reply_of}
use Rattle.rules.specs.WorkedEdits.{WorkedEdit, table_of, right_after, found_after, worked_edits}
use Rattle.rules.proofs.Groups.{pile_checks, early, late, checks_from, answer_from, slices_from}
use Rattle.rules.proofs.ByRows.{lead, extent, cuts, top_from, answer_rows, slices_rows}
use Rattle.rules.proofs.AnswerLaws.{answer_by_rows, slices_by_rows}
use Rattle.rules.proofs.TableLaws.{both_left, both_right}
use Rattle.rules.proofs.Known.{positive, are_positive}

abbrev checked : WorkedEdit → Refusal
checked c = edit_checks c.edit (log_in c.rows) (pile_record c.pile) (table_of c.lent)

-- the log if the edit is accepted
abbrev now : WorkedEdit → List ℕ
now c = edited_log c.edit (log_in c.rows)

-- what the edit leaves where t says that it is refused, and its ground otherwise has this answer and these slices
abbrev after : WorkedEdit → Bool → Answer → List Slice → List (List ℕ)
after c t a cs =
    let fresh = table_bytes (table_size (limit_of (now c))) cs in
    reply_of (pick t (refused (checked c)) (with_kept (kept (length cs) fresh (table_of c.lent)) a)) ∷
    pick t (log_in c.rows) (now c) ∷
    pick t (table_of c.lent) fresh ∷
    []

-- the same along the rows
abbrev rows_now : WorkedEdit → List Row
rows_now c = rows_of (now c)

abbrev pile_now : WorkedEdit → Pile
pile_now c = pile_of (pile_record c.pile)

abbrev found_rows : WorkedEdit → List (List ℕ)
found_rows c = after c (refuses (checked c)) (answer_rows (rows_now c) (pile_now c) c.extra) (slices_rows (rows_now c) (pile_now c) c.extra)

by_rows : (c : WorkedEdit) (t : Bool) → T (either t (positive (rows_now c)))
    → after c t (answer_of (rows_now c) (pile_now c) c.extra) (held_slices_of (rows_now c) (pile_now c) c.extra) ≡ after c t (answer_rows (rows_now c) (pile_now c) c.extra) (slices_rows (rows_now c) (pile_now c) c.extra)
by_rows c true h = refl
by_rows c false h =
    let w = are_positive (rows_now c) h in
    ap₂ (after c false) (sym (answer_by_rows (rows_now c) (pile_now c) c.extra w)) (sym (slices_by_rows (rows_now c) (pile_now c) c.extra w))

found_rows_lem : (c : WorkedEdit) → T (either (refuses (checked c)) (positive (rows_now c))) → found_after c ≡ found_rows c
unfolding edit_reply edit_log edit_table edit_answer fresh_answer fresh_table
found_rows_lem c h = by_rows c (refuses (checked c)) h

abbrev ready : List WorkedEdit → Bool
ready [] = true
ready (c ∷ cs) = both (either (refuses (checked c)) (positive (rows_now c))) (ready cs)

all_rows : (cs : List WorkedEdit) → T (ready cs) → map found_after cs ≡ map found_rows cs
all_rows [] t = refl
all_rows (c ∷ cs) t =
    let a : Bool = either (refuses (checked c)) (positive (rows_now c)) in
    ap₂ (λ (x : List (List ℕ)) (xs : List (List (List ℕ))). x ∷ xs) (found_rows_lem c (both_left a (ready cs) t)) (all_rows cs (both_right a (ready cs) t))

all_ready : T (ready worked_edits)
unfolding limit_of when first all_zero number_at rows_from rows_of row_bytes places_bytes log_for pile_bytes slice_bytes slices_bytes table_bytes unused_wrong wrong_field first_wrong new_row_check depth_of stands edited_rows edited_log edit_checks
all_ready = tt

by_computing : map found_rows worked_edits ≡ map right_after worked_edits
unfolding limit_of when first all_zero number_at rows_from rows_of pile_of row_bytes pile_bytes slice_bytes places_bytes log_for slices_bytes table_bytes unused_wrong wrong_field first_wrong new_row_check depth_of wrong_pile_field section_check same soil_at row_for spot_of weighed friction_at dash_at tip_at friction factor slice_of slice_each friction_sum tip_read resistance tip_force shaft_force capacity_of uplift_of early late pile_checks checks_from numbers answer_from slices_from stands edited_rows edited_log edit_checks same_bytes kept lead extent cuts top_from answer_rows slices_rows cut_depth fill_height on_scale at_angle of_tenths of_hundredths width_term depth_term sand_formula sand_cap sand_resistance
by_computing = refl

-- Each worked edit has the reply, the log and the table that are right.
pub worked_edits_lem : map found_after worked_edits ≡ map right_after worked_edits
worked_edits_lem = all_rows worked_edits all_ready ∙ by_computing
