-- The line times 1,000 is rounded down once.
use Rattle.norm_alphas.proofs.LineLaws.{tenths_are}
use Rattle.norm_alphas.proofs.SandLines.of_tenths.Goals as goal

pub returns : goal.returns
returns c = tenths_are _ _ _ c.at_angle.ensures.0 c.at_angle.ensures.1
