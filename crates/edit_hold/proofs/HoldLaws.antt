-- Laws of what is held: the answer with kept, the table, and that the places suffice.
use Rattle.rules.specs.declared.SandNumbers.{SandNumbers}
use Rattle.std.specs.Prelude.{Option}
use mathlib.Core.Path.{◌≡◌, ◌∙◌, ap}
use mathlib.Core.List.{List}
use Prim.Native.Nat.{ℕ, ◌≤◌}
use native.Mathlib.Omega.{arith}
use lib.ListN.{length}
use Rattle.rules.specs.declared.Answer.{Answer}
use Rattle.rules.specs.declared.Refusal.{Refusal}
use Rattle.rules.specs.Answers.{refused}
use Rattle.rules.specs.Limits.{row_limit, place_limit, limit_of, table_size}
use Rattle.rules.specs.Packed.{rows_of, pile_of, table_bytes}
use Rattle.rules.specs.Checks.{Passed}
use Rattle.rules.specs.Calculation.{held_slices_of, fresh_answer, fresh_table}
use Rattle.rules.specs.EditReplies.{edit_answer, used_slices, kept, with_kept}
use Rattle.rules.proofs.FormLaws.{one_form, limit_most}
use Rattle.rules.proofs.PassedLaws.{known}
use Rattle.rules.proofs.RoomLaws.{log_room}

-- the answer of the log as it now stands, with kept, and its table
pub held : (log pile : List ℕ) (extra : Option SandNumbers) (table : List ℕ) (a : Answer) (n m : ℕ) (new old : List ℕ) → length table ≡ table_size (limit_of log) → a ≡ fresh_answer log pile extra → n ≡ used_slices log pile extra
    → new ≡ table_bytes (length table) (held_slices_of (rows_of log) (pile_of pile) extra) → old ≡ table → m ≡ kept n new old → (with_kept m a ≡ edit_answer log pile extra table) × (new ≡ fresh_table log pile extra)
unfolding edit_answer fresh_table
held log pile extra table a n m new old l p q t u h = (rw (h, p, q, t, u, l), rw (t, l))

-- under a refusal no slice is held, and none is kept
pub none_held : (log pile : List ℕ) (extra : Option SandNumbers) (table : List ℕ) (w : Refusal) (new : List ℕ) → length table ≡ table_size (limit_of log) → refused w ≡ fresh_answer log pile extra → 0 ≡ used_slices log pile extra
    → new ≡ table_bytes (length table) (held_slices_of (rows_of log) (pile_of pile) extra) → (refused w ≡ edit_answer log pile extra table) × (new ≡ fresh_table log pile extra)
unfolding edit_answer fresh_table kept
none_held log pile extra table w new l p q t = (rw (← p, ← q), rw (t, l))

-- a table that goes with the log has places for every form, and no slice is past them
pub room : (log table : List ℕ) → Passed log → length table ≡ table_size (limit_of log) → length table ≡ table_size row_limit
room log table p l = l ∙ ap table_size (one_form log (known log p).form)

pub few : (log pile : List ℕ) (extra : Option SandNumbers) (n : ℕ) → Passed log → n ≡ used_slices log pile extra → n ≤ place_limit
few log pile extra n p h = omega (arith, h, log_room log pile extra p, limit_most log)
