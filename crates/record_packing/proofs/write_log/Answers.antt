-- Each turn puts one place more behind the first i.
use Rattle.std.proofs.Common.{ap, ◌∙◌, arith}
use lib.Seq.{get_or-take}
use Rattle.rules.specs.Packed.{no_row, row_bytes}
use Rattle.record_packing.proofs.PackLaws.{writing_start, writing_more, writing_end}
use Rattle.record_packing.proofs.write_log.Goals as goal

pub loop-i-init : goal.loop-i-init
loop-i-init c = writing_start _ _ c.args.buf.now c.requires.1

pub loop-i-preserved : goal.loop-i-preserved
loop-i-preserved c = writing_more _ _ _ _ _ c.loop-i.invariant _ _ (omega arith) (c.row_bytes.ensures ∙ ap row_bytes (get_or-take c.args.limit c.args.log.now.rows c.loop-i.i no_row (omega arith))) c.copy_in.ensures

pub returns : goal.returns
returns c = writing_end _ _ _ _ _ c.loop-i.invariant (omega arith)
