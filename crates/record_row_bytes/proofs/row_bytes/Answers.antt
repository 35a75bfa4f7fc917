-- Five fields put one after the other, the last at the word's end, make the number of the row, whose bytes are the word's last five.
use Rattle.std.proofs.Common.{mul-one}
use Rattle.rules.specs.Widths.{join}
use Rattle.rules.specs.Records.{row_fields, row_widths}
use Rattle.rules.specs.Packed.{row_bytes}
use Rattle.record_bits.proofs.FieldLaws.{end, ◌then◌, bytes_put}
use Rattle.record_row_bytes.proofs.row_bytes.Goals as goal

pub returns : goal.returns
unfolding row_bytes
returns c =
    rw
    (bytes_put 0 {y = join row_widths (row_fields c.args.r)} c.bytes_of.ensures
    (c.put.ensures then c.put-2.ensures then c.put-3.ensures then c.put-4.ensures then c.put-5.ensures then end) c.over-fields.ensures
    (rw (c.from.ensures, c.from-2.ensures, c.from-3.ensures, c.from-4.ensures, c.from-5.ensures) (mul-one _)))
