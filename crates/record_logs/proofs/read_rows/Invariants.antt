-- Of the used rows i are right and read, the rows that are left refuse as all do, and the places behind are zero.
use Rattle.record_logs.proofs.ReadLaws.{Reading}
use Rattle.record_logs.proofs.read_rows.Given as goal

abbrev pub invariant-loop-i : goal.invariant-loop-i
invariant-loop-i l = Reading l.s l.log l.i
