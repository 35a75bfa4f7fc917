-- That each contract of the layer ground settles its reply.
use Rattle.settled.proofs.Settled.{Settled}
use Rattle.rules.proofs as rules
use Rattle.ground_strata.proofs as ground_strata
use Rattle.ground_strata.proofs.OneStratum.{one_stratum, one_step}
use Rattle.ground_cuts.proofs as ground_cuts
use Rattle.ground_shaft.proofs as ground_shaft

pub soil_of : Settled rules.conversions.SoilFromRow.from.Kinds.ps rules.conversions.SoilFromRow.from.Kinds.r rules.conversions.SoilFromRow.from.Reads.Pre rules.conversions.SoilFromRow.from.Reads.Learnt
soil_of _ _ _ h g = cc

pub same_soil : Settled rules.SoilPartialEq.eq.Kinds.ps rules.SoilPartialEq.eq.Kinds.r rules.SoilPartialEq.eq.Reads.Pre rules.SoilPartialEq.eq.Reads.Learnt
same_soil _ _ _ h g = cc

pub stratum_from : Settled ground_strata.stratum_from.Kinds.ps ground_strata.stratum_from.Kinds.r ground_strata.stratum_from.Reads.Pre ground_strata.stratum_from.Reads.Learnt
stratum_from _ _ _ h g = one_stratum h g

pub down_to : Settled ground_strata.Strata.down_to.Kinds.ps ground_strata.Strata.down_to.Kinds.r ground_strata.Strata.down_to.Reads.Pre ground_strata.Strata.down_to.Reads.Learnt
down_to _ _ _ h g = cc

pub next_stratum : Settled ground_strata.StrataIterator.next.Kinds.ps ground_strata.StrataIterator.next.Kinds.r ground_strata.StrataIterator.next.Reads.Pre ground_strata.StrataIterator.next.Reads.Learnt
next_stratum _ _ _ h g = one_step _ _ _ _ _ h.0 g.0

pub cut_part : Settled ground_cuts.cut_part.Kinds.ps ground_cuts.cut_part.Kinds.r ground_cuts.cut_part.Reads.Pre ground_cuts.cut_part.Reads.Learnt
cut_part _ _ _ h g = (cc, cc)

pub cut_shaft : Settled ground_shaft.cut_shaft.Kinds.ps ground_shaft.cut_shaft.Kinds.r ground_shaft.cut_shaft.Reads.Pre ground_shaft.cut_shaft.Reads.Learnt
cut_shaft _ _ _ h g = (cc, cc)
