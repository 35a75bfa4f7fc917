-- Promises about an edit: kept, what stands where the pile is refused, and that an edit is answered as a calculation of any log with the same
-- ground, so that a split or a merge changes nothing.
use Rattle.rules.specs.declared.SandNumbers.{SandNumbers}
use Rattle.std.specs.Prelude.{Option}
use mathlib.Core.Path.{◌≡◌, sym, ◌∙◌, ap, ap₂}
use mathlib.Core.Bool.{true, false}
use mathlib.Core.List.{List, []}
use Prim.Native.Nat.{ℕ, ◌-◌}
use native.Mathlib.Omega.{arith}
use lib.ListN.{length, replicate}
use Rattle.rules.specs.declared.Row.{Row}
use Rattle.rules.specs.declared.Slice.{Slice}
use Rattle.rules.specs.Base.{refuses, when}
use Rattle.rules.specs.Limits.{limit_of, table_size}
use Rattle.rules.specs.Packed.{rows_of, pile_of, slices_bytes, table_bytes}
use Rattle.rules.specs.Ground.{depth_of, soil_at, Agree}
use Rattle.rules.specs.Edits.{Edit, asked, edited_rows, edited_log}
use Rattle.rules.specs.Checks.{formless, log_checks, Passed, lengths_wrong, lent_checks, LentPassed, Accepted}
use Rattle.rules.specs.Answers.{refused}
use Rattle.rules.specs.Calculation.{answer_of, held_slices_of, fresh_answer, fresh_table, calculated, table_after}
use Rattle.rules.specs.EditReplies.{edit_answer, edit_reply, edit_log, edit_table, kept, kept_of, with_kept, AsCalculated}
use Rattle.rules.proofs.RefusalLaws.{first_off, first_none, when_off, when_false}
use Rattle.rules.proofs.AnswerLaws.{only_millimetres, refused_ground}
use Rattle.rules.proofs.EditLaws.{Standing, replaces, inserts, removes, splits, standing, free, split_same_ground}
use Rattle.answer_calculation.proofs.CheckedLaws.{long}
use Rattle.edit_reply.proofs.ReplyLaws.{allowed}
use Rattle.promises.proofs.TwoTables.{kept_is}

-- one table goes with one form: that of the log that is lent, and of the log that an accepted edit leaves
pub lent_form : (log pile table : List ℕ) → LentPassed log pile table → length table ≡ table_size (limit_of log)
unfolding lent_checks
lent_form log pile table h =
    let w = lengths_wrong log pile table in
    (long log pile table (when_off 0 w (first_off (when w 1) _ h).0)).size

pub left_form : (e : Edit) (log pile table : List ℕ) → Accepted e log pile table → length table ≡ table_size (limit_of (edited_log e log))
left_form e log pile table h = let a = allowed e log pile table h in rw a.left.limit a.lent.size

-- what an accepted edit replies and the table that it leaves, of the log as it then stands
module _ (e : Edit) (log pile : List ℕ) (extra : Option SandNumbers) (table : List ℕ) (h : Accepted e log pile table) where
  abbrev now : List ℕ
  now = edited_log e log

  reply_is : edit_reply e log pile extra table ≡ with_kept (kept_of (fresh_table now pile extra) table) (fresh_answer now pile extra)
  unfolding edit_reply edit_answer
  reply_is = rw (h, kept_is now pile extra table (allowed e log pile table h).left.passed)

  table_is : edit_table e log pile extra table ≡ fresh_table now pile extra
  unfolding edit_table
  table_is = rw h

  -- "An accepted edit changes the log": the log, the table and the reply
  pub accepted_edit : (edit_log e log pile table ≡ now) × (edit_table e log pile extra table ≡ fresh_table now pile extra)
      × (edit_reply e log pile extra table ≡ with_kept (kept_of (edit_table e log pile extra table) table) (fresh_answer now pile extra))
  unfolding edit_log
  accepted_edit = (rw h, table_is, rw table_is reply_is)

  -- "how many leading slices of the new table already had the same seven bytes at the same place in the lent table"
  pub kept_of_two : (edit_reply e log pile extra table).kept ≡ kept_of (edit_table e log pile extra table) table
  kept_of_two = rw (reply_is, table_is)

  -- "Under 5 to 12 .. the table becomes all zero; the log holds the edit": zeros, with kept among them
  pub pile_refused : refuses (edit_reply e log pile extra table).refusal ≡ true
      → (edit_reply e log pile extra table ≡ refused (edit_reply e log pile extra table).refusal) × (edit_table e log pile extra table ≡ replicate (length table) 0) × (edit_log e log pile table ≡ now)
  unfolding edit_reply edit_table edit_log edit_answer fresh_answer fresh_table answer_of held_slices_of table_bytes slices_bytes kept
  pile_refused g =
      let k = refused_ground (soil_at (rows_of now)) (depth_of (rows_of now)) (pile_of pile) extra (rw h at g) in
      let size = table_size (limit_of now) in
      let all : size - 0 ≡ size = omega arith in
      (rw (h, k.1) (ap (with_kept 0) k.0), rw (h, k.1, all, left_form e log pile table h), rw h)

-- two logs of one form and one ground
fresh_alike : (a b pile : List ℕ) (extra : Option SandNumbers) → table_size (limit_of a) ≡ table_size (limit_of b) → Agree (rows_of a) (rows_of b) → (fresh_answer a pile extra ≡ fresh_answer b pile extra) × (fresh_table a pile extra ≡ fresh_table b pile extra)
unfolding fresh_answer fresh_table
fresh_alike a b pile extra f h = let o = only_millimetres (rows_of a) (rows_of b) (pile_of pile) extra h in (o.0, ap₂ (λ (n : ℕ) (cs : List Slice). table_bytes n cs) f o.1)

-- An accepted edit is answered as a plain calculation of any log that is as deep as the edited one and agrees with it at every millimetre.
pub same_ground_same_answer : (e : Edit) (log l pile : List ℕ) (extra : Option SandNumbers) (table : List ℕ) → Accepted e log pile table → LentPassed l pile table → Agree (rows_of l) (rows_of (edited_log e log))
    → AsCalculated e log l pile extra table
unfolding calculated table_after
same_ground_same_answer e log l pile extra table h g a =
    let o = fresh_alike l (edited_log e log) pile extra (sym (lent_form l pile table g) ∙ left_form e log pile table h) a in
    record { answer = rw (g, o.0, o.1) (reply_is e log pile extra table h); leaves = rw (g, o.1) (table_is e log pile extra table h) }

-- a log past its checks, lent with pieces of the right lengths
pub passes : (log pile table : List ℕ) → lengths_wrong log pile table ≡ false → Passed log → LentPassed log pile table
unfolding lent_checks log_checks
passes log pile table n p =
    first_none (when (lengths_wrong log pile table) 1) _ (ap refuses (when_false 1 _ n)) (first_off (when (formless log) 1) _ p).1

-- and only such a log
pub lent_log : (log pile table : List ℕ) → LentPassed log pile table → Passed log
unfolding lent_checks log_checks
lent_log log pile table h =
    let w = lengths_wrong log pile table in
    let one = first_off (when w 1) _ h in
    first_none (when (formless log) 1) _ (ap refuses (when_false 1 _ (long log pile table (when_off 0 w one.0)).formed)) one.1

-- what an accepted edit was lent passes checks 1 to 4
pub lent_passes : (e : Edit) (log pile table : List ℕ) → Accepted e log pile table → LentPassed log pile table
lent_passes e log pile table h = let a = allowed e log pile table h in passes log pile table a.lent.right a.passed

-- An accepted split leaves the ground as it was.
split_ground : (k x : ℕ) (row log pile table : List ℕ) → Accepted (asked 4 k x row) log pile table → Agree (rows_of log) (rows_of (edited_log (asked 4 k x row) log))
split_ground k x row log pile table h =
    let a = allowed (asked 4 k x row) log pile table h in
    rw a.left.rows (go (standing 4 k x row (rows_of log) (free (asked 4 k x row) log a.change).named))
  where
    go : Standing 4 k x (rows_of log) → Agree (rows_of log) (edited_rows (asked 4 k x row) (rows_of log))
    go (replaces q a c) = absurd (omega arith)
    go (inserts q a c) = absurd (omega arith)
    go (removes q a c m) = absurd (omega arith)
    go (splits q a c m n) = split_same_ground k x row (rows_of log) a c n

-- "Rows do not matter, only millimetres do.": an accepted split leaves the answer and the slice table that the log gives unsplit.
pub split_changes_nothing : (k x : ℕ) (row log pile : List ℕ) (extra : Option SandNumbers) (table : List ℕ) → Accepted (asked 4 k x row) log pile table → AsCalculated (asked 4 k x row) log log pile extra table
split_changes_nothing k x row log pile extra table h =
    same_ground_same_answer (asked 4 k x row) log log pile extra table h (lent_passes (asked 4 k x row) log pile table h) (split_ground k x row log pile table h)

-- Two accepted edits that leave logs of the same ground, however these were typed, get equal replies and equal tables.
pub edited_alike : (e f : Edit) (log l pile : List ℕ) (extra : Option SandNumbers) (table : List ℕ) → Accepted e log pile table → Accepted f l pile table → Agree (rows_of (edited_log e log)) (rows_of (edited_log f l))
    → (edit_reply e log pile extra table ≡ edit_reply f l pile extra table) × (edit_table e log pile extra table ≡ edit_table f l pile extra table)
edited_alike e f log l pile extra table h g a =
    let o = fresh_alike (edited_log e log) (edited_log f l) pile extra (sym (left_form e log pile table h) ∙ left_form f l pile table g) a in
    (reply_is e log pile extra table h ∙ rw (o.0, o.1) (sym (reply_is f l pile extra table g)), table_is e log pile extra table h ∙ o.1 ∙ sym (table_is f l pile extra table g))

turned : (rs ts : List Row) → Agree rs ts → Agree ts rs
turned rs ts a = (sym a.0, λ m h. sym (a.1 m (rw a.0 h)))

-- The other way: an accepted edit that leaves as one row what a split would part is answered as a calculation of the parted log.
pub merge_changes_nothing : (e : Edit) (k x : ℕ) (log pile : List ℕ) (extra : Option SandNumbers) (table : List ℕ) → Accepted e log pile table → Accepted (asked 4 k x []) (edited_log e log) pile table
    → AsCalculated e log (edited_log (asked 4 k x []) (edited_log e log)) pile extra table
merge_changes_nothing e k x log pile extra table h g =
    let l : List ℕ = edited_log e log in
    let t : List ℕ = edited_log (asked 4 k x []) l in
    let a = allowed (asked 4 k x []) l pile table g in
    let n : lengths_wrong t pile table ≡ false = rw a.left.limit a.lent.right in
    same_ground_same_answer e log t pile extra table h (passes t pile table n a.left.passed) (turned (rows_of l) (rows_of t) (split_ground k x [] l pile table g))
