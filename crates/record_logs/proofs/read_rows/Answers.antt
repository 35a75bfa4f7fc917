-- Check 2 has passed, so the rows stand inside the log; i of them are right and read, the rows that are left refuse as all do, and the places
-- behind are zero, as the log's are.
use Rattle.std.proofs.Common.{ap, refl, ◌∙◌, arith}
use Rattle.rules.specs.declared.Log.{Log}
use Rattle.record_logs.proofs.ReadLaws.{reading_start, reading_wrong, reading_more, reading_end}
use Rattle.record_logs.proofs.read_rows.Goals as goal

pub loop-i-init : goal.loop-i-init
loop-i-init c = reading_start _ _ c.requires.0 c.requires.1 refl (ap (λ (l : Log). l.rows) c.requires.2)

pub returns-in-Some-clause-refusal : goal.returns-in-Some-clause-refusal
returns-in-Some-clause-refusal c =
    c.row_fault.ensures ∙ reading_wrong _ _ _ c.loop-i.invariant _ (omega arith) c.row_inside-row.ensures _ c.in-Some.ensures

pub loop-i-preserved : goal.loop-i-preserved
loop-i-preserved c = reading_more _ _ _ c.loop-i.invariant _ (omega arith) c.row_inside-row.ensures c.in_default.ensures

pub returns-clause-refusal : goal.returns-clause-refusal
returns-clause-refusal c = (reading_end _ _ _ c.loop-i.invariant (omega arith)).0

pub returns-clause-log : goal.returns-clause-log
returns-clause-log c = (reading_end _ _ _ c.loop-i.invariant (omega arith)).1
