-- The clamped reading stands by the step of its whole units.
use Rattle.std.proofs.Common.{refl}
use Rattle.norm_scales.proofs.ScaleLaws.{standing}
use Rattle.norm_scales.proofs.on_scale.Goals as goal

pub returns : goal.returns
returns g c =
    let s = g.S.Scale in
    standing s.FIRST s.LAST s.finest s.marks g.met.S.Scale.printed _ c.requires.0 c.requires.1 _ _ _ _ c.FIRST.ensures c.LAST.ensures c.clamp-read.ensures _ c.step-step.ensures _ refl
