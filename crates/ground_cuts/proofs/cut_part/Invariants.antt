-- What was put, counted and added up so far and what is left are together the whole part.
use Rattle.ground_cuts.specs.Cuts.{slices_in}
use Rattle.ground_cuts.proofs.SliceLaws.{Cutting}
use Rattle.ground_cuts.proofs.cut_part.Given as goal

abbrev pub invariant-loop-slice : goal.invariant-loop-slice
invariant-loop-slice l = Cutting (slices_in l.fn.pile l.fn.soil l.from l.end) l.place l.from l.end l.initial.table l.table l.used l.sum l.slice-iterator
