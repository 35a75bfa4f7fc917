-- Two cells are weighed across in each row, and the rows down; a mean is at most the larger, so each step stays within its bound.
use Rattle.std.proofs.Common.{◌*◌, ◌≤◌, max, ◌∙◌, arith}
use Rattle.std.proofs.Math.Nat.{mul-le-mul}
use Rattle.rules.specs.Bounds.{cell_bound}
use Rattle.norm_spots.proofs.Weights.{weighed_is}
use Rattle.norm_spots.proofs.weigh.Goals as goal

pub returns : goal.returns
returns c =
    let upper = c.mean-upper in
    let lower = c.mean-lower in
    let m : max upper.result lower.result ≤ 10 * cell_bound = omega arith in (
      c.mean.ensures.0 ∙ weighed_is c.args.p _ _ _ _ _ _ upper.ensures.0 lower.ensures.0,
      omega (arith, mul-le-mul c.requires.0.span m),
    )
