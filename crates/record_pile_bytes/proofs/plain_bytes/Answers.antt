-- Seven fields put one after the other fill a word, and make the number of the record before its grade.
use native.Mathlib.Nat.{mul-one}
use Rattle.rules.specs.Widths.{join}
use Rattle.rules.specs.Records.{pile_fields, plain_widths}
use Rattle.record_bits.proofs.FieldLaws.{end, ◌then◌, bytes_put}
use Rattle.record_pile_bytes.proofs.plain_bytes.Goals as goal

pub returns : goal.returns
returns c =
    bytes_put 0 {y = join plain_widths (pile_fields c.args.p)} c.bytes_of.ensures
    (c.put.ensures then c.put-2.ensures then c.put-3.ensures then c.put-4.ensures then c.put-5.ensures then c.put-6.ensures then c.put-7.ensures then end) c.over-fields.ensures
    (rw (c.from.ensures, c.from-2.ensures, c.from-3.ensures, c.from-4.ensures, c.from-5.ensures, c.from-6.ensures, c.from-7.ensures) (mul-one _))
