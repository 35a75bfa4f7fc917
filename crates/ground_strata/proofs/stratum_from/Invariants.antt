-- While rows are taken the stratum is open; the row below it goes to it, or parts it from the next.
use Rattle.std.proofs.Common.{◌+◌, ◌-◌}
use Rattle.ground_strata.proofs.StratumLaws.{Open}
use Rattle.ground_strata.proofs.stratum_from.Given as goal

abbrev pub invariant-loop-bottom : goal.invariant-loop-bottom
invariant-loop-bottom l = Open l.log.bytes.now l.first l.top l.tip l.next l.bottom l.soil

abbrev pub decreases-loop-bottom : goal.decreases-loop-bottom
decreases-loop-bottom l = l.tip + 1 - l.bottom
