-- Four fields put one after the other make the number of the slice at the top of a word, so its bytes are the word's first seven.
use Rattle.std.proofs.Common.{◌*◌, ◌^◌, ◌∙◌}
use Rattle.std.proofs.lemmas.Nat.{shl-shr}
use Rattle.rules.specs.Widths.{join, bytes}
use Rattle.rules.specs.Records.{slice_fields, slice_size, slice_widths}
use Rattle.rules.specs.Packed.{slice_bytes}
use Rattle.rules.proofs.WidthLaws.{cut_append}
use Rattle.record_bits.proofs.FieldLaws.{end, ◌then◌, bytes_put}
use Rattle.record_slices.proofs.SliceLaws.{spare}
use Rattle.record_slices.proofs.slice_bytes.Goals as goal

pub returns : goal.returns
unfolding slice_bytes
returns c =
    rw (
      bytes_put spare {y = join slice_widths (slice_fields c.args.c) * 2 ^ spare} c.bytes_of.ensures (c.put.ensures then c.put-2.ensures then c.put-3.ensures then c.put-4.ensures then end) c.over-fields.ensures
          (rw (c.from.ensures, c.from-2.ensures, c.from-3.ensures, c.from-4.ensures))
          ∙ cut_append (bytes slice_size) (bytes 1) _,
      shl-shr _ spare,
    )
