-- One computed test over its degrees.
use Rattle.std.proofs.Common.{arith}
use Rattle.rules.specs.Tables.{row_for}
use Rattle.rules.specs.SandTips.{angles}
use Rattle.norm_scales.proofs.Rules.{rising, less_shared}
use Rattle.norm_scales.proofs.AnglesScale.step.Goals as goal

pub returns : goal.returns
unfolding row_for
returns c = rising angles 7 23 40 _ c.requires.0 (omega arith) (less_shared _ _ _) _ _ _ _ _ c.min-place.ensures tt
