-- The four cells are those printed at the spot; where no dash has a weight, R is rounded down once, from the four weighed.
use Rattle.std.proofs.Common.{sym, ◌∙◌}
use Rattle.norm_tips.proofs.Dashes.{reads_dash, reads_pascals}
use Rattle.norm_tips.proofs.TipRows.tip_at.Goals as goal

pub returns-then-any_dash : goal.returns-then-any_dash
returns-then-any_dash c =
    reads_dash c.args.p _ _ _ _ c.cell-a.ensures.0 c.cell-b.ensures.0 c.cell-c.ensures.0 c.cell-d.ensures.0
    (sym c.any_dash.ensures ∙ c.if-any_dash.true)

pub returns : goal.returns
returns c =
    reads_pascals c.args.p _ _ _ _ c.cell-a.ensures.0 c.cell-b.ensures.0 c.cell-c.ensures.0 c.cell-d.ensures.0
    _ _ c.requires (sym c.any_dash.ensures ∙ c.if-any_dash.false)
    (c.weigh-w.ensures.0 ∙ (rw (c.unwrap_or-4.ensures, c.unwrap_or-3.ensures, c.unwrap_or-2.ensures, c.unwrap_or.ensures)))
    c.whole_pascals.ensures
