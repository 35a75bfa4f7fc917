-- A turn cuts one slice off what is left, until none is.
use Rattle.std.proofs.Common.{arith}
use Rattle.ground_cuts.proofs.SliceLaws.{one_more, cutting_more, cutting_all}
use Rattle.ground_cuts.proofs.cut_part.Goals as goal

pub put_slice-requires : goal.put_slice-requires
put_slice-requires c = let cutting = c.loop-slice.invariant in omega (arith, one_more cutting c.in-Some.ensures.steps, cutting.long)

pub loop-slice-preserved : goal.loop-slice-preserved
loop-slice-preserved c = cutting_more c.loop-slice.invariant c.in-Some.ensures.steps _ _ c.in-Some.ensures.goes.keeps (cc) c.put_slice.ensures c.put_slice.auto.table

pub returns : goal.returns
returns c = let all = cutting_all c.loop-slice.invariant c.in-None.ensures.steps in record { cut = all.0; table = all.1 }
