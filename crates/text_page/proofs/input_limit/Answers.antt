-- The length without a grade is asked first; no form has both.
use Rattle.rules.specs.Sheet.{input_limit}
use Rattle.text_page.proofs.InputLaws.{first_form}
use Rattle.text_page.proofs.input_limit.Goals as goal

pub returns-clause-told : goal.returns-clause-told
unfolding input_limit
returns-clause-told c =
    let plain = c.limit_before-plain.ensures in
    rw c.or.ensures (first_form _ _ _ _ plain.told c.limit_before.ensures.told plain.form)
