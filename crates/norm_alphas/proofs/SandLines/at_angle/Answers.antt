-- The two cells of the line around the angle, weighed.
use Rattle.norm_alphas.proofs.LineLaws.{line_read}
use Rattle.norm_alphas.proofs.SandLines.at_angle.Goals as goal

pub returns : goal.returns
returns c = line_read _ _ _ _ c.args.self.now.printed c.requires.0 c.requires.1 c.line_at.ensures.0 c.line_at.ensures.1
