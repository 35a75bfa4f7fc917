-- Behind the count and the first i places the buffer is as it was.
use Rattle.record_packing.proofs.PackLaws.{Writing}
use Rattle.record_packing.proofs.write_log.Given as goal

abbrev pub invariant-loop-i : goal.invariant-loop-i
invariant-loop-i l = Writing l.limit l.log l.initial.buf l.buf l.i
