-- Of the stored columns kind 1 has the first.
use Rattle.norm_sand_caps.proofs.ColumnLaws.{cap_read}
use Rattle.norm_sand_caps.proofs.sand_cap.Goals as goal

pub returns : goal.returns
returns c = (cap_read _ _ _ _ _ c.cap_at.ensures.0 c.on_depths.ensures.0 c.past.ensures.0, c.cap_at.ensures.1)
