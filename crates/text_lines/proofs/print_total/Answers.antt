-- Numbers of 64 bits take at most 20 digits each.
use Rattle.std.proofs.Common.{[], ◌∷◌, arith}
use Rattle.rules.specs.Sheet.{total_word, total_line}
use Rattle.text_lines.proofs.LineLaws.{line_short}
use Rattle.text_lines.proofs.print_total.Goals as goal

pub returns : goal.returns
unfolding total_line
returns c =
    let a = c.args.a in
    let put = c.put_line.ensures in
    record { put = put; short = line_short total_word (20 ∷ 20 ∷ 20 ∷ 20 ∷ 20 ∷ []) (a.line ∷ a.tip ∷ a.shaft ∷ a.capacity ∷ a.uplift ∷ []) (omega (arith, c.well_formed)) put }
