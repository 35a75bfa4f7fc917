-- The eight bytes before the grade, and behind them its own two.
use Rattle.std.proofs.Common.{arith}
use Rattle.record_pile_bytes.proofs.TenBytes.{laid}
use Rattle.record_pile_bytes.proofs.pile_bytes.Goals as goal

pub returns : goal.returns
returns c = laid c.args.p (omega (arith, c.well_formed)) _ _ c.plain_bytes-b.ensures c.to_be_bytes-g.ensures
