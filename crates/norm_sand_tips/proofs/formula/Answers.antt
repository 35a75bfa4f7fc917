-- The terms of the definition, each from its own contract.
use Rattle.norm_sand_tips.proofs.TermLaws.{formula_is}
use Rattle.norm_sand_tips.proofs.formula.Goals as goal

pub returns : goal.returns
returns c =
    formula_is c.args.base _ _ _ _ _ _ _ _ _ _ _ _ _ c.from-t.ensures c.from.ensures c.from-2.ensures
    c.alpha_1.ensures.0 c.alpha_2.ensures.0 c.alpha_3.ensures.0 c.alpha_4.ensures.0
    c.width_term-width.ensures.0 c.overburden-over.ensures.0 c.depth_term-depth.ensures.0 c.of_bracket.ensures
