-- Each row is asked for its own zeros.
use Rattle.std.proofs.Common.{◌∙◌, rules, tests}
use Rattle.std.proofs.lemmas.Iterator.{YieldsList-from_slice}
use Rattle.std.proofs.lemmas.Iterator.Search.{all_from_yields_List}
use Rattle.rules.specs.Reading.{row_zero}
use Rattle.record_packing.proofs.PackLaws.{rows_zero_all}
use Rattle.record_packing.proofs.unused.Goals as goal

pub returns : goal.returns
returns c =
    all_from_yields_List row_zero _ _ _ c.all.ensures.ran (YieldsList-from_slice c.args.rows.now cc) (λ x b q k. search (rules, tests)) ∙ rows_zero_all c.args.rows.now
