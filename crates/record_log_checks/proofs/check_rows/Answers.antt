-- A row that is not good is the first wrong one; a good one leaves the others; at the end none is left.
use Rattle.std.proofs.Common.{sym, ◌∙◌, rules, arith}
use borrow.Author.Tests.{eqb-true}
use Rattle.record_log_checks.proofs.RowsLaws.{checking_wrong, checking_more, checking_end}
use Rattle.record_log_checks.proofs.check_rows.Goals as goal

pub returns-then-not-row_good-clause-refusal : goal.returns-then-not-row_good-clause-refusal
returns-then-not-row_good-clause-refusal c =
    c.row_fault.ensures ∙ checking_wrong _ _ _ _ c.loop-i.invariant _ (omega arith) c.row_inside-row.ensures _ (search rules)

pub loop-i-preserved : goal.loop-i-preserved
loop-i-preserved c =
    checking_more _ _ _ _ c.loop-i.invariant _ (omega arith) c.row_inside-row.ensures _ c.from-depth.ensures (eqb-true _ _ (sym c.row_good.ensures ∙ c.if-not-row_good.false)) (omega arith)

pub returns-clause-refusal : goal.returns-clause-refusal
returns-clause-refusal c = (checking_end _ _ _ _ c.loop-i.invariant (omega arith)).0

pub returns-clause-depth : goal.returns-clause-depth
returns-clause-depth c = (checking_end _ _ _ _ c.loop-i.invariant (omega arith)).1
