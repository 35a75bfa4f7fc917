-- Each turn puts a space and a number.
use Rattle.std.proofs.Common.{arith}
use Rattle.rules.specs.Sheet.{spaced}
use Rattle.text_writing.proofs.PutLaws.{puts_none}
use Rattle.text_writing.proofs.SpacedLaws.{number_more}
use Rattle.text_writing.proofs.Writer.put_numbers.Goals as goal

pub loop-x-init : goal.loop-x-init
unfolding spaced
loop-x-init c = record { short = omega arith; put = puts_none _ }

pub loop-x-preserved : goal.loop-x-preserved
loop-x-preserved c =
    let start = c.loop-x in
    record {
      short = omega (arith, c.put_decimal.ensures.short);
      put = number_more c.args.xs.now start.x-index c.loop-x-test.true start.invariant.put c.put_bytes.ensures c.put_decimal.ensures.put;
    }
