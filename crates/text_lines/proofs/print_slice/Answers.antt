-- Numbers of 16, 16, 32 and 8 bits take at most 5, 5, 10 and 3 digits.
use Rattle.std.proofs.Common.{[], ◌∷◌, arith}
use Rattle.rules.specs.Records.{slice_fields}
use Rattle.rules.specs.Sheet.{slice_word, slice_line}
use Rattle.text_lines.proofs.LineLaws.{line_short}
use Rattle.text_lines.proofs.print_slice.Goals as goal

pub returns : goal.returns
unfolding slice_line
returns c =
    let put = rw (c.from.ensures, c.from-2.ensures, c.from-3.ensures, c.from-4.ensures) at c.put_line.ensures in
    record { put = put; short = line_short slice_word (5 ∷ 5 ∷ 10 ∷ 3 ∷ []) (slice_fields c.args.c) (omega (arith, c.well_formed)) put }
