-- Five fields taken one after the other, the last at the word's end: the word cut by the widths of a row.
use Rattle.std.proofs.Common.{ap, ◌∙◌, div-one}
use Rattle.rules.specs.Records.{row_from}
use Rattle.record_bits.proofs.FieldLaws.{end, ◌then◌, fields_taken}
use Rattle.record_rows.proofs.row_of.Goals as goal

pub returns : goal.returns
returns c =
    let start = c.over-fields.ensures in
    ap row_from (fields_taken 0 (c.take.ensures then c.take-2.ensures then c.take-3.ensures then c.take-4.ensures then c.take-5.ensures then end) start.1 (div-one _ ∙ start.0))
