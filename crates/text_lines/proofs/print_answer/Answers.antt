-- Numbers of 32 bits take at most 10 digits each.
use Rattle.std.proofs.Common.{[], ◌∷◌, arith}
use Rattle.rules.specs.Sheet.{answer_word, answer_line}
use Rattle.text_lines.proofs.LineLaws.{line_short}
use Rattle.text_lines.proofs.print_answer.Goals as goal

pub returns : goal.returns
unfolding answer_line
returns c =
    let r = c.args.a.refusal in
    let put = rw (c.from.ensures, c.from-2.ensures, c.from-3.ensures) at c.put_line.ensures in
    record { put = put; short = line_short answer_word (10 ∷ 10 ∷ 10 ∷ []) (r.number ∷ r.row ∷ r.field ∷ []) (omega (arith, c.well_formed)) put }
