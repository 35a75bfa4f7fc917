-- The two cells of the column around the depth, weighed; the one division comes last.
use Rattle.std.proofs.Common.{arith}
use Rattle.norm_sand_caps.proofs.ColumnLaws.{column_fits, column_read}
use Rattle.norm_sand_caps.proofs.CapColumns.cap_at.Goals as goal

pub overflow_mul-result : goal.overflow_mul-result
overflow_mul-result c =
    let fits = column_fits _ _ _ _ c.args.self.now.printed c.requires.0 c.requires.1 c.line_at.ensures.1 in
    omega (arith, fits)

pub returns : goal.returns
returns c = column_read _ _ _ _ c.args.self.now.printed c.requires.0 c.requires.1 c.line_at.ensures.1 c.line_at.ensures.0
