-- A run of edits: the log, the table and the held answer that it leaves.
use Rattle.rules.specs.declared.SandNumbers.{SandNumbers}
use Rattle.std.specs.Prelude.{◌≡◌, Bool, false, List, [], ◌∷◌, ◌++◌, ℕ, Option}
use Rattle.rules.specs.declared.Answer.{Answer}
use Rattle.rules.specs.Base.{pick, either, neg, refuses}
use Rattle.rules.specs.Edits.{Edit}
use Rattle.rules.specs.Checks.{edit_checks, Passed, LentPassed, Accepted}
use Rattle.rules.specs.Calculation.{calculated, table_after}
use Rattle.rules.specs.EditReplies.{edit_reply, edit_log, edit_table, with_kept}

-- each edit comes with a pile record; 02 (iv): "The record counts as part of the pile record in demand 3"
pub record Call : Type 0 where
  pub edit : Edit
  pub pile : List ℕ
  pub extra : Option SandNumbers

-- "The held answer is the last accepted edit's refusal number, row, field and five numbers; kept is not part of it";
-- with the pile record and the extra record it was worked out for
pub data Held : Type 0 where
  never : Held
  by : List ℕ → Option SandNumbers → Answer → Held

pub record Desk : Type 0 where
  pub log : List ℕ
  pub table : List ℕ
  pub held : Held

-- nothing is held yet
abbrev pub desk : List ℕ → List ℕ → Desk
desk log table = record { log = log; table = table; held = never }

-- the answer that an accepted edit leaves held
abbrev pub answer_held : Call → Desk → Answer
answer_held c d = with_kept 0 (edit_reply c.edit d.log c.pile c.extra d.table)

abbrev pub held_after : Call → Desk → Held
held_after c d = by c.pile c.extra (answer_held c d)

unfoldable pub step : Call → Desk → Desk
step c d = record {
  log = edit_log c.edit d.log c.pile d.table;
  table = edit_table c.edit d.log c.pile c.extra d.table;
  held = pick (refuses (edit_checks c.edit d.log c.pile d.table)) d.held (held_after c d);
}

unfoldable pub run : List Call → Desk → Desk
run [] d = d
run (c ∷ cs) d = run cs (step c d)

-- at least one edit of the run is accepted
unfoldable pub any_accepted : List Call → Desk → Bool
any_accepted [] d = false
any_accepted (c ∷ cs) d = let on = any_accepted cs (step c d) in either (neg (refuses (edit_checks c.edit d.log c.pile d.table))) on

-- "the last accepted edit" of a run: it is accepted on the desk that the edits before it leave, and no edit after it is
pub record Last (cs : List Call) (d : Desk) : Type 0 where
  pub before : List Call
  pub call : Call
  pub after : List Call
  pub whole : cs ≡ before ++ (call ∷ after)
  pub accepted : Accepted call.edit (run before d).log call.pile (run before d).table
  pub refused : any_accepted after (step call (run before d)) ≡ false

-- what is held is the answer to call c on the desk as lent; and of the desk as it now is, the log passes its checks, and a calculation with
-- the pile record and the extra record of c replies that answer and leaves that table
pub record Afresh (c : Call) (lent now : Desk) : Type 0 where
  pub held : now.held ≡ by c.pile c.extra (answer_held c lent)
  pub log : Passed now.log
  pub pieces : LentPassed now.log c.pile now.table
  pub answer : calculated now.log c.pile c.extra now.table ≡ answer_held c lent
  pub table : table_after now.log c.pile c.extra now.table ≡ now.table

-- a run that leaves what is afresh, by its last accepted edit
pub record AfterRun (cs : List Call) (d : Desk) : Type 0 where
  pub last : Last cs d
  pub afresh : Afresh last.call (run last.before d) (run cs d)
