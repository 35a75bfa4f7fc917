-- What an edit replies, the log and the table it leaves, and kept.
use Rattle.rules.specs.declared.SandNumbers.{SandNumbers}
use Rattle.std.specs.Prelude.{◌≡◌, Bool, true, false, List, [], ◌∷◌, ℕ, zero, suc, ◌/◌, ltb, eqb, length, take, drop, Option}
use Rattle.rules.specs.declared.Answer.{Answer}
use Rattle.rules.specs.Base.{pick, both, refuses}
use Rattle.rules.specs.Records.{slice_size}
use Rattle.rules.specs.Packed.{rows_of, pile_of, slice_at}
use Rattle.rules.specs.Edits.{Edit, edited_log}
use Rattle.rules.specs.Checks.{edit_checks}
use Rattle.rules.specs.Answers.{refused}
use Rattle.rules.specs.Calculation.{fresh_answer, fresh_table, held_slices_of, calculated, table_after}

-- two lists of bytes are the same
unfoldable pub same_bytes : List ℕ → List ℕ → Bool
same_bytes [] [] = true
same_bytes [] (b ∷ bs) = false
same_bytes (c ∷ cs) [] = false
same_bytes (c ∷ cs) (b ∷ bs) = let on = same_bytes cs bs in both (eqb c b) on

-- "how many leading slices of the new table already had the same seven bytes at the same place in the lent table. It stops at the first
-- slice whose bytes differ.": of the n used slices of the new table
unfoldable pub kept : ℕ → List ℕ → List ℕ → ℕ
kept zero new lent = 0
kept (suc n) new lent =
    let on = suc (kept n (drop slice_size new) (drop slice_size lent)) in
    pick (same_bytes (take slice_size new) (take slice_size lent)) on 0

-- the same from the two tables alone, of n places: one that has some thickness holds a slice, and one that has none ends the count
unfoldable pub kept_in : ℕ → List ℕ → List ℕ → ℕ
kept_in zero new lent = 0
kept_in (suc n) new lent =
    let on = suc (kept_in n (drop slice_size new) (drop slice_size lent)) in
    let used = ltb 0 (slice_at new 0).thickness in
    pick (both used (same_bytes (take slice_size new) (take slice_size lent))) on 0

unfoldable pub kept_of : List ℕ → List ℕ → ℕ
kept_of new lent = kept_in (length new / slice_size) new lent

abbrev pub used_slices : List ℕ → List ℕ → Option SandNumbers → ℕ
used_slices log pile extra = length (held_slices_of (rows_of log) (pile_of pile) extra)

abbrev pub with_kept : ℕ → Answer → Answer
with_kept n a = record { refusal = a.refusal; kept = n; line = a.line; tip = a.tip; shaft = a.shaft; capacity = a.capacity; uplift = a.uplift }

-- what an accepted edit replies, for the log as it now stands
unfoldable pub edit_answer : List ℕ → List ℕ → Option SandNumbers → List ℕ → Answer
edit_answer now pile extra table = with_kept (kept (used_slices now pile extra) (fresh_table now pile extra) table) (fresh_answer now pile extra)

-- the reply, the log and the table after the edit. "A refused edit .. changes no buffer."
unfoldable pub edit_reply : Edit → List ℕ → List ℕ → Option SandNumbers → List ℕ → Answer
edit_reply e log pile extra table =
    let r = edit_checks e log pile table in
    pick (refuses r) (refused r) (edit_answer (edited_log e log) pile extra table)

unfoldable pub edit_log : Edit → List ℕ → List ℕ → List ℕ → List ℕ
edit_log e log pile table = pick (refuses (edit_checks e log pile table)) log (edited_log e log)

unfoldable pub edit_table : Edit → List ℕ → List ℕ → Option SandNumbers → List ℕ → List ℕ
edit_table e log pile extra table = pick (refuses (edit_checks e log pile table)) table (fresh_table (edited_log e log) pile extra)

-- the reply to an edit of `log` and its table are those of a calculation of log l, with kept counted against the table that was lent
pub record AsCalculated (e : Edit) (log l pile : List ℕ) (extra : Option SandNumbers) (table : List ℕ) : Type 0 where
  pub answer : edit_reply e log pile extra table ≡ with_kept (kept_of (table_after l pile extra table) table) (calculated l pile extra table)
  pub leaves : edit_table e log pile extra table ≡ table_after l pile extra table
