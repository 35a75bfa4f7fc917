-- Each branch is one computed test over its halves.
use Rattle.std.proofs.Common.{arith}
use Rattle.rules.specs.Tables.{row_for}
use Rattle.rules.specs.SandTips.{ratios}
use Rattle.norm_scales.proofs.Rules.{fixed, rising, shared_less}
use Rattle.norm_scales.proofs.RatiosScale.step.Goals as goal

pub returns-then-halves-lt10 : goal.returns-then-halves-lt10
unfolding row_for
returns-then-halves-lt10 c = fixed ratios 8 _ _ _ c.requires.0 c.if-halves-lt10.true _ _ _ tt

pub returns : goal.returns
unfolding row_for
returns c = rising ratios 8 10 51 _ c.if-halves-lt10.false (omega arith) (shared_less _ _ _) _ _ _ _ _ c.min-place.ensures tt
