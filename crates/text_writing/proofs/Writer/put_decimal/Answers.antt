-- The text that is put is what std writes of the number.
use Rattle.std.proofs.Common.{arith}
use Rattle.text_writing.proofs.DigitLaws.{decimal_is}
use Rattle.text_writing.proofs.Writer.put_decimal.Goals as goal

pub put_bytes-requires : goal.put_bytes-requires
put_bytes-requires c = omega (arith, c.format.ensures.fits)

pub returns-clause-put : goal.returns-clause-put
returns-clause-put c = rw (decimal_is c.args.x (omega arith), ← c.format.ensures.text, ← c.as_bytes.ensures.value) c.put_bytes.ensures

pub returns-clause-short : goal.returns-clause-short
returns-clause-short c = omega (arith, c.format.ensures.fits)
