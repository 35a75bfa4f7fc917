-- The input is cut where its log ends; the table of the calculation holds the slices that are laid out.
use Rattle.std.proofs.Common.{◌∙◌}
use Rattle.text_page.proofs.InputLaws.{cut_same, sheet_laid}
use Rattle.text_page.proofs.put_sheet.Goals as goal

pub returns-clause-sheet : goal.returns-clause-sheet
returns-clause-sheet c =
    let input = c.args.input.now in
    let worked = c.calculate-answer in
    let parts = c.split_at.ensures in
    let same = cut_same input _ _ c.min-end.ensures in
    sheet_laid input _ _ _ _ _ _ _ _ c.requires.limit.0 (parts.front ∙ same.0) (parts.back ∙ same.1) c.requires.table worked.ensures.reply worked.ensures.table
    worked.auto.table c.lay_out.ensures.sheet
