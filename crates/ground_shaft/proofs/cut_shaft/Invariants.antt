-- Every stratum above what is left of them is cut: the next one's part of the shaft is the next of the millimetre definition.
use Rattle.std.proofs.Common.{length}
use Rattle.ground_shaft.proofs.CutLaws.{Doing}
use Rattle.ground_shaft.proofs.cut_shaft.Given as goal

abbrev pub invariant-loop-stratum : goal.invariant-loop-stratum
invariant-loop-stratum l = Doing l.log l.pile (length l.fn.table) l.table l.shaft l.first l.stratum-iterator
