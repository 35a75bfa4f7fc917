-- A table has places for what fills it: a calculation and an edit leave it as long as it was.
use Rattle.rules.specs.declared.SandNumbers.{SandNumbers}
use Rattle.std.specs.Prelude.{Option}
use mathlib.Core.Path.{◌≡◌, refl, sym, ◌∙◌}
use mathlib.Core.Bool.{Bool, true, false}
use mathlib.Core.List.{List}
use Prim.Native.Nat.{ℕ, ◌≤◌}
use native.Mathlib.Omega.{arith}
use lib.ListN.{length}
use Rattle.rules.specs.Base.{pick, refuses}
use Rattle.rules.specs.Limits.{limit_of, places_for, table_size}
use Rattle.rules.specs.Packed.{rows_of, pile_of}
use Rattle.rules.specs.Ground.{depth_of, soil_at}
use Rattle.rules.specs.Edits.{Edit, edited_log}
use Rattle.rules.specs.Checks.{Passed, LentPassed, lent_checks, edit_checks}
use Rattle.rules.specs.Answers.{held_slices}
use Rattle.rules.specs.Calculation.{held_slices_of, fresh_table, table_after}
use Rattle.rules.specs.EditReplies.{edit_table}
use Rattle.rules.proofs.RoomLaws.{log_room}
use Rattle.record_slice_table.proofs.TableLaws.{filled_long}
use Rattle.edit_reply.proofs.ReplyLaws.{allowed}
use Rattle.promises.proofs.AcceptedEdits.{lent_form, left_form, lent_log}

-- of lent bytes past checks 1 to 4
pub places_enough : (log pile : List ℕ) (extra : Option SandNumbers) (table : List ℕ) → LentPassed log pile table → length (held_slices (soil_at (rows_of log)) (depth_of (rows_of log)) (pile_of pile) extra) ≤ places_for (limit_of log)
unfolding held_slices_of
places_enough log pile extra table h = log_room log pile extra (lent_log log pile table h)

-- the table of a log past its checks has the length that goes with it
pub fresh_long : (log pile : List ℕ) (extra : Option SandNumbers) → Passed log → length (fresh_table log pile extra) ≡ table_size (limit_of log)
unfolding fresh_table
fresh_long log pile extra p =
    let cs = held_slices_of (rows_of log) (pile_of pile) extra in
    filled_long (table_size (limit_of log)) cs _ (length cs) (omega (arith, log_room log pile extra p)) (refl, refl)

pub calculation_long : (log pile : List ℕ) (extra : Option SandNumbers) (table : List ℕ) → length (table_after log pile extra table) ≡ length table
unfolding table_after
calculation_long log pile extra table = go (refuses (lent_checks log pile table)) refl
  where
    go : (t : Bool) → refuses (lent_checks log pile table) ≡ t → length (pick t table (fresh_table log pile extra)) ≡ length table
    go true e = refl
    go false e = fresh_long log pile extra (lent_log log pile table e) ∙ sym (lent_form log pile table e)

pub edit_long : (e : Edit) (log pile : List ℕ) (extra : Option SandNumbers) (table : List ℕ) → length (edit_table e log pile extra table) ≡ length table
unfolding edit_table
edit_long e log pile extra table = go (refuses (edit_checks e log pile table)) refl
  where
    go : (t : Bool) → refuses (edit_checks e log pile table) ≡ t → length (pick t table (fresh_table (edited_log e log) pile extra)) ≡ length table
    go true h = refl
    go false h = fresh_long (edited_log e log) pile extra (allowed e log pile table h).left.passed ∙ sym (left_form e log pile table h)
