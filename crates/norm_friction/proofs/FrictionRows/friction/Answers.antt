-- The cells of the row above and the row below, weighed across and then down, are the definition's reading.
use Rattle.std.proofs.Common.{◌∙◌}
use Rattle.norm_friction.proofs.Reading.{friction_is, column_most}
use Rattle.norm_friction.proofs.FrictionRows.friction.Goals as goal

pub returns : goal.returns
returns c =
    let rows = c.args.self.now in
    let e =
    c.mean.ensures.0
    ∙ friction_is _ rows.cells _ _ _ _ rows.printed c.friction_row-stands.ensures c.along-upper.ensures.0 c.along-lower.ensures.0 in
    (e, rw e (column_most _ _ c.requires))
