-- Of n rows i are right: the rows that are left refuse as all do, and the depth and theirs together are that of all.
use Rattle.record_log_checks.proofs.RowsLaws.{Checking}
use Rattle.record_log_checks.proofs.check_rows.Given as goal

abbrev pub invariant-loop-i : goal.invariant-loop-i
invariant-loop-i l = Checking l.s l.n l.depth l.i
