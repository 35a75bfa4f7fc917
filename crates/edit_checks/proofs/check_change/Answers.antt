-- The new log is as deep as the lent one, less what goes and with what comes.
use Rattle.std.proofs.Common.{sym, ◌∙◌, arith}
use Rattle.rules.proofs.PassedLaws.{known}
use Rattle.rules.proofs.EditLaws.{standing}
use Rattle.edit_checks.proofs.ChangeChecks.{deep, named, change_4, change_none}
use Rattle.edit_checks.proofs.check_change.Goals as goal

pub stands-requires : goal.stands-requires
stands-requires c = (known _ c.args.checked.log.passed).inside

pub full-requires : goal.full-requires
full-requires c = omega (arith, (known _ c.args.checked.log.passed).inside)

pub gone-requires-clause-inside : goal.gone-requires-clause-inside
gone-requires-clause-inside c = (known _ c.args.checked.log.passed).inside

pub gone-requires-clause-named : goal.gone-requires-clause-named
gone-requires-clause-named c =
    let q = known _ c.args.checked.log.passed in
    λ o. let n = named _ _ _ c.args.edit.row.now _ (standing _ _ _ _ _ (sym c.stands.ensures ∙ c.if-not-stands.false)) o in (n.0, omega (arith, n.1, q.rows))

pub overflow_sub-deep : goal.overflow_sub-deep
overflow_sub-deep c =
    let d = deep _ _ _ c.args.edit.row.now _ (standing _ _ _ _ _ (sym c.stands.ensures ∙ c.if-not-stands.false)) in
    omega (arith, d.less, c.args.checked.deep)

pub overflow_add-deep : goal.overflow_add-deep
overflow_add-deep c = omega (arith, (known _ c.args.checked.log.passed).deep, c.args.checked.deep)

pub returns-then-deep-gt-DEPTH_LIMIT-clause-refusal : goal.returns-then-deep-gt-DEPTH_LIMIT-clause-refusal
returns-then-deep-gt-DEPTH_LIMIT-clause-refusal c =
    let there = sym c.stands.ensures ∙ c.if-not-stands.false in
    let d = deep _ _ _ c.args.edit.row.now _ (standing _ _ _ _ _ there) in
    change_4 _ _ there (sym c.full.ensures ∙ c.if-full.false) c.in_ok-check_new_row.ensures _ (omega (arith, d.new, c.args.checked.deep)) c.if-deep-gt-DEPTH_LIMIT.true

pub returns-clause-refusal : goal.returns-clause-refusal
returns-clause-refusal c =
    let there = sym c.stands.ensures ∙ c.if-not-stands.false in
    let d = deep _ _ _ c.args.edit.row.now _ (standing _ _ _ _ _ there) in
    change_none _ _ there (sym c.full.ensures ∙ c.if-full.false) c.in_ok-check_new_row.ensures _ (omega (arith, d.new, c.args.checked.deep)) c.if-deep-gt-DEPTH_LIMIT.false

pub returns-clause-depth : goal.returns-clause-depth
returns-clause-depth c =
    let d = deep _ _ _ c.args.edit.row.now _ (standing _ _ _ _ _ (sym c.stands.ensures ∙ c.if-not-stands.false)) in
    omega (arith, d.new, c.args.checked.deep)
