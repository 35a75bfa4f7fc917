-- The first bytes of a table of zeros are zeros.
use Rattle.std.proofs.Common.{◌≤◌, arith}
use Rattle.rules.specs.Limits.{row_limit, table_size}
use Rattle.text_page.proofs.InputLaws.{limit_most}
use Rattle.text_page.proofs.PageLaws.{take_zeros}
use Rattle.text_page.proofs.sheet.Goals as goal

pub put_sheet-requires-clause-table : goal.put_sheet-requires-clause-table
put_sheet-requires-clause-table c =
    let limit = c.unwrap_or-limit in
    let inside : table_size limit.result ≤ table_size row_limit = omega (arith, limit_most _ c.input_limit.ensures.form) in
    take_zeros _ _ inside
