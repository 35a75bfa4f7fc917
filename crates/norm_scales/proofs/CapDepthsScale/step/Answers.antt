-- Each branch is one computed test over its metres.
use Rattle.std.proofs.Common.{refl, arith}
use Rattle.rules.specs.Tables.{row_for}
use Rattle.rules.specs.SandTips.{cap_depths}
use Rattle.norm_scales.proofs.Rules.{counted, rising, falling, shared_more, most_shared}
use Rattle.norm_scales.proofs.CapDepthsScale.step.Goals as goal

pub returns-then-metre-lt5 : goal.returns-then-metre-lt5
unfolding row_for
returns-then-metre-lt5 c = counted cap_depths 8 _ _ _ c.requires.0 c.if-metre-lt5.true _ _ tt

pub returns-then-metre-lt10 : goal.returns-then-metre-lt10
unfolding row_for
returns-then-metre-lt10 c = rising cap_depths 8 _ _ _ c.if-metre-lt5.false c.if-metre-lt10.true (shared_more _ _) _ _ _ _ _ refl tt

pub returns : goal.returns
unfolding row_for
returns c = falling cap_depths 8 10 36 _ c.if-metre-lt10.false (omega arith) (most_shared _ _ _) _ _ _ _ _ c.min-place.ensures tt
