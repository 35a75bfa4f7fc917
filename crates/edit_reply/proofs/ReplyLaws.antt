-- Laws of the reply: what the checks of an accepted edit leave known, and the log, the table and the answer of a refused and of an accepted one.
use Rattle.rules.specs.declared.SandNumbers.{SandNumbers}
use Rattle.std.specs.Prelude.{Option}
use mathlib.Core.Path.{◌≡◌, sym, ◌∙◌, ap}
use mathlib.Core.Bool.{true, false}
use mathlib.Core.List.{List}
use Prim.Native.Nat.{ℕ}
use lib.ListN.{length}
use Rattle.rules.specs.declared.faults.Fault.{Fault}
use Rattle.rules.specs.declared.Answer.{Answer}
use Rattle.rules.specs.Base.{refuses, when, first}
use Rattle.rules.specs.Records.{row_size}
use Rattle.rules.specs.Limits.{limit_of, table_size}
use Rattle.rules.specs.Packed.{rows_of}
use Rattle.rules.specs.Ground.{depth_of}
use Rattle.rules.specs.Edits.{Edit, brings, edited_rows, edited_log}
use Rattle.rules.specs.Checks.{formless, Passed, edit_lengths_wrong, edit_checks, Accepted}
use Rattle.rules.specs.Faults.{refusal_of}
use Rattle.rules.specs.Answers.{refused}
use Rattle.rules.specs.Calculation.{fresh_table}
use Rattle.rules.specs.EditReplies.{edit_answer, edit_reply, edit_log, edit_table}
use Rattle.rules.proofs.Groups.{content_checks, change_checks, edit_grouped, log_grouped}
use Rattle.rules.proofs.RefusalLaws.{first_off, first_none, when_off, when_false, either_left}
use Rattle.rules.proofs.EditLaws.{Left, left, free}
use Rattle.answer_work.proofs.WorkLaws.{fault_refuses}
use Rattle.answer_calculation.proofs.CheckedLaws.{Long, long}
use Rattle.edit_checks.proofs.RowChecks.{brought}
use Rattle.edit_changes.proofs.ChangeLaws.{ready}

-- "A refused edit .. changes no buffer."
pub refused_edit_lem : (e : Edit) (log pile : List ℕ) (extra : Option SandNumbers) (table : List ℕ) (fault : Fault) (a : Answer) → refusal_of fault ≡ edit_checks e log pile table → a ≡ refused (refusal_of fault)
    → (a ≡ edit_reply e log pile extra table) × ((log ≡ edit_log e log pile table) × (table ≡ edit_table e log pile extra table))
unfolding edit_reply edit_log edit_table
refused_edit_lem e log pile extra table fault a h f =
    let r : refuses (edit_checks e log pile table) ≡ true = ap refuses (sym h) ∙ fault_refuses fault in
    (f ∙ ap refused h ∙ rw r, (rw r, rw r))

-- an accepted edit: what was lent, and the log that it leaves
pub record Allowed (e : Edit) (l p t : List ℕ) : Type 0 where
  pub lent : Long l p t
  pub row : brings e.kind ≡ true → length e.row ≡ row_size
  pub passed : Passed l
  pub change : refuses (change_checks e l) ≡ false
  pub left : Left e l

pub allowed : (e : Edit) (log pile table : List ℕ) → Accepted e log pile table → Allowed e log pile table
allowed e log pile table none =
    let one = first_off (when (edit_lengths_wrong e log pile table) 1) (first (content_checks log) (change_checks e log)) (rw (edit_grouped e log pile table) at none) in
    let two = first_off (content_checks log) (change_checks e log) one.1 in
    let w : edit_lengths_wrong e log pile table ≡ false = when_off 0 (edit_lengths_wrong e log pile table) one.0 in
    let g : Long log pile table = long log pile table (either_left _ _ w) in
    let p : Passed log = rw (log_grouped log) (first_none (when (formless log) 1) (content_checks log) (ap refuses (when_false 1 (formless log) g.formed)) two.0) in
    record {
      lent = g;
      row = brought e log pile table w;
      passed = p;
      change = two.1;
      left = left e log p (ready e.kind e.k e.x e.row log (p, two.1)) (free e log two.1).deep;
    }

-- the log after the change, its depth, and what is worked out of it
module _ (e : Edit) (log pile table : List ℕ) (none : Accepted e log pile table) (s : List ℕ) (f : s ≡ edited_log e log) where
  pub now_passed : Passed s
  now_passed = rw f (allowed e log pile table none).left.passed

  pub now_deep : (d : ℕ) → d ≡ depth_of (edited_rows e (rows_of log)) → d ≡ depth_of (rows_of s)
  now_deep d h = h ∙ rw (f, (allowed e log pile table none).left.rows)

  pub now_long : length table ≡ table_size (limit_of s)
  now_long = let a = allowed e log pile table none in rw (f, a.left.limit) a.lent.size

  pub accepted_edit : (extra : Option SandNumbers) (a : Answer) (new : List ℕ) → a ≡ edit_answer s pile extra table → new ≡ fresh_table s pile extra
      → (a ≡ edit_reply e log pile extra table) × ((s ≡ edit_log e log pile table) × (new ≡ edit_table e log pile extra table))
  unfolding edit_reply edit_log edit_table
  accepted_edit extra a new h t = (rw none (h ∙ rw f), (rw none f, rw none (t ∙ rw f)))
