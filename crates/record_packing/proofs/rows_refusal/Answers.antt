-- A row that is wrong refuses as all do; at the end none is left.
use Rattle.std.proofs.Common.{◌∙◌, arith}
use Rattle.record_packing.proofs.PackLaws.{checked_wrong, checked_more, checked_end}
use Rattle.record_packing.proofs.rows_refusal.Goals as goal

pub returns-in-Some : goal.returns-in-Some
returns-in-Some c = c.row_fault.ensures ∙ checked_wrong _ _ c.loop-i.invariant (omega arith) _ c.in-Some.ensures

pub loop-i-preserved : goal.loop-i-preserved
loop-i-preserved c = checked_more _ _ c.loop-i.invariant (omega arith) c.in_default.ensures

pub returns : goal.returns
returns c = checked_end _ _ c.loop-i.invariant (omega arith)
