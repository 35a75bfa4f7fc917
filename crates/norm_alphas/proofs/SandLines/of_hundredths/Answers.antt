-- Two lines at the angle, weighed; the one division comes last.
use Rattle.norm_columns.proofs.Means.{weighed_most}
use Rattle.norm_alphas.proofs.LineLaws.{hundredths_are}
use Rattle.norm_alphas.proofs.SandLines.of_hundredths.Goals as goal

pub returns : goal.returns
returns c =
    let upper = c.at_angle-upper.ensures in
    let lower = c.at_angle-lower.ensures in
    hundredths_are _ _ _ _ _ _ upper.0 lower.0 c.mean.ensures.0 (weighed_most _ _ _ _ _ c.mean.ensures.1 upper.1 lower.1)
