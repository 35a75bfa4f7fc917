-- Seven fields taken one after the other from the whole of a word, the word cut by their widths; and behind them the grade.
use Rattle.std.proofs.Common.{ap, sym, ◌∙◌, List, [], ◌∷◌, ◌++◌, ℕ, ◌+◌, arith}
use mathlib.Core.Path.{ap₂}
use native.Mathlib.Nat.{div-one}
use Rattle.rules.specs.Records.{plain_size, pile_from}
use Rattle.rules.specs.Packed.{pile_of}
use Rattle.rules.proofs.GradeLaws.{fields_graded}
use Rattle.record_bits.proofs.FieldLaws.{end, ◌then◌, fields_taken}
use Rattle.record_piles.proofs.take_pile.Goals as goal

pub returns : goal.returns
unfolding pile_of
returns c =
    let s = c.args.s.now in
    let start = c.over-fields.ensures in
    ap pile_from
    (ap₂ (λ (l : List ℕ) (g : ℕ). l ++ (g ∷ []))
    (fields_taken 0 (c.take.ensures then c.take-2.ensures then c.take-3.ensures then c.take-4.ensures then c.take-5.ensures then c.take-6.ensures then c.take-7.ensures then end)
    start.1 (div-one _ ∙ start.0 ∙ c.number_of.ensures))
    c.take_grade.ensures
    ∙ sym (fields_graded s (omega (arith, c.type_inv.s plain_size)) (omega (arith, c.type_inv.s (plain_size + 1)))))
