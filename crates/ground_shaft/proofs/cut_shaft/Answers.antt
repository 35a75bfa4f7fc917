-- A turn cuts the next stratum's part of the shaft; at the end the tip stands on the last of them.
use Rattle.std.proofs.Common.{◌∙◌, ap, arith}
use Rattle.rules.specs.Ground.{soil_of}
use Rattle.ground_strata.specs.Strata.{from_ground}
use Rattle.ground_shaft.proofs.CutLaws.{doing_none, doing_room, doing_more, row_there, all, all_bytes}
use Rattle.ground_shaft.proofs.cut_shaft.Goals as goal

pub loop-stratum-init : goal.loop-stratum-init
loop-stratum-init c =
    let from_start = c.into_iter-stratum-iterator.ensures.into_iter_gives ∙ c.down_to-stratum-items.ensures in
    doing_none _ _ _ _ _ _ _ c.requires c.clear_table.ensures c.default-shaft.ensures.0 c.default-shaft.ensures.1.0 (from_start ∙ ap (from_ground c.args.log) c.from-tip.ensures)

pub cut_part-part-requires : goal.cut_part-part-requires
cut_part-part-requires c =
    let level = c.requires.level in
    let from_is = rw c.from-head.ensures at c.max-from.ensures in
    let end_is = rw c.from-tip.ensures at c.min-end.ensures in
    (omega arith, omega arith, doing_room c.requires c.loop-stratum.invariant c.in-Some.ensures.steps _ _ from_is end_is)

pub loop-stratum-preserved : goal.loop-stratum-preserved
loop-stratum-preserved c =
    let from_is = rw c.from-head.ensures at c.max-from.ensures in
    let end_is = rw c.from-tip.ensures at c.min-end.ensures in
    let cut = c.cut_part-part.ensures in
    doing_more c.requires c.loop-stratum.invariant c.in-Some.ensures.steps _ _ _ _ c.in-Some.ensures.goes.keeps from_is end_is cut.cut cut.table

pub row-requires : goal.row-requires
row-requires c = row_there c.requires c.loop-stratum.invariant c.in-None.ensures.steps.0

pub returns : goal.returns
returns c =
    let doing = c.loop-stratum.invariant in
    let past = c.in-None.ensures.steps.0 in
    let shaft = all c.requires doing past _ (c.from-shaft.ensures ∙ ap soil_of c.row.ensures) in
    record { shaft = (shaft.0, omega (arith, shaft.1, c.requires.near)); table = all_bytes c.requires doing past }
