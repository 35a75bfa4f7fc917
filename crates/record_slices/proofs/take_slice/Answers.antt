-- Four fields taken one after the other from the top of a word, a byte behind them: the word without that byte, cut by the widths of a slice.
use Rattle.std.proofs.Common.{ℕ, ◌/◌, ◌^◌, ap, ◌∙◌, arith}
use Rattle.rules.specs.Records.{slice_from, slice_size}
use Rattle.rules.specs.Packed.{slice_at}
use Rattle.record_bits.proofs.FieldLaws.{end, ◌then◌, fields_taken}
use Rattle.record_slices.proofs.SliceLaws.{spare, word_slice}
use Rattle.record_slices.proofs.take_slice.Goals as goal

pub returns : goal.returns
unfolding slice_at
returns c =
    let start = c.over-fields.ensures in
    let eight = ap (λ (w : ℕ). w / 2 ^ spare) (start.0 ∙ c.number_of.ensures) ∙ word_slice _ (omega (arith, c.type_inv.s slice_size)) in
    ap slice_from (fields_taken spare (c.take.ensures then c.take-2.ensures then c.take-3.ensures then c.take-4.ensures then end) start.1 eight)
