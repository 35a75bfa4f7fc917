-- The stored rows are those printed, by one computed test; the rest is the reading at a spot.
use Rattle.norm_tips.proofs.Dashes.{tip_resistance_read}
use Rattle.norm_tips.proofs.tip_resistance.Goals as goal

pub returns : goal.returns
returns c = (
  tip_resistance_read _ _ _ _ _ c.past.ensures.0 c.tip_spot-p.ensures.0 c.tip_at.ensures.0,
  c.tip_at.ensures.1,
)
