-- While rows are taken the stratum is open; the row below it goes to it, or parts it from the next.
use Rattle.std.proofs.Common.{refl, ◌∙◌, ap, arith}
use mathlib.Core.Bool.{not}
use Rattle.record_log_checks.proofs.CheckedLaws.{row_fits}
use Rattle.ground_strata.proofs.StratumLaws.{told, first_there, open_one, open_deep, next_there, row_deep, open_more, reaches_parted}
use Rattle.ground_strata.proofs.stratum_from.Goals as goal

pub row-row-requires : goal.row-row-requires
row-row-requires c = first_there c.args.log.passed c.requires

pub overflow_add-bottom : goal.overflow_add-bottom
overflow_add-bottom c = omega (arith, open_deep (open_one c.args.log.passed c.requires _ _ _ _ c.row-row.ensures refl refl refl))

pub overflow_add-next : goal.overflow_add-next
overflow_add-next c = omega (arith, row_fits _ _ c.args.log.passed (first_there c.args.log.passed c.requires))

pub loop-bottom-init : goal.loop-bottom-init
loop-bottom-init c = open_one c.args.log.passed c.requires _ _ _ _ c.row-row.ensures c.from-soil.ensures refl (omega arith)

pub row-below-requires : goal.row-below-requires
row-below-requires c = next_there c.loop-bottom.invariant c.loop-bottom-test.true

pub returns-then-ne : goal.returns-then-ne
returns-then-ne c =
    let same_is = told _ _ c.ne.ensures c.from-in-loop-bottom.ensures in
    reaches_parted c.loop-bottom.invariant c.loop-bottom-test.true _ c.row-below.ensures (same_is ∙ ap not c.if-ne.true)

pub overflow_add-bottom-in-loop-bottom : goal.overflow_add-bottom-in-loop-bottom
overflow_add-bottom-in-loop-bottom c = omega (arith, row_deep c.loop-bottom.invariant c.loop-bottom-test.true _ c.row-below.ensures)

pub overflow_add-next-in-loop-bottom : goal.overflow_add-next-in-loop-bottom
overflow_add-next-in-loop-bottom c = let taken = c.loop-bottom.invariant in omega (arith, row_fits _ _ taken.passed (next_there taken c.loop-bottom-test.true))

pub loop-bottom-smaller : goal.loop-bottom-smaller
loop-bottom-smaller c = omega (arith, row_deep c.loop-bottom.invariant c.loop-bottom-test.true _ c.row-below.ensures)

pub loop-bottom-preserved : goal.loop-bottom-preserved
loop-bottom-preserved c =
    let same_is = told _ _ c.ne.ensures c.from-in-loop-bottom.ensures in
    open_more c.loop-bottom.invariant c.loop-bottom-test.true _ c.row-below.ensures _ (same_is ∙ ap not c.if-ne.false) (omega arith)
