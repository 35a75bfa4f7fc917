-- Of the used rows i are right, and those that are left refuse as all do.
use Rattle.record_packing.proofs.PackLaws.{Checked}
use Rattle.record_packing.proofs.rows_refusal.Given as goal

abbrev pub invariant-loop-i : goal.invariant-loop-i
invariant-loop-i l = Checked l.rows l.i
