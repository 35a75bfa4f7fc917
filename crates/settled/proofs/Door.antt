-- That each contract of the door settles its reply.
use Rattle.settled.proofs.Settled.{Settled}
use Rattle.psamathyr.proofs as psamathyr

pub psamathyr_calculate : Settled psamathyr.psamathyr_calculate.Kinds.ps psamathyr.psamathyr_calculate.Kinds.r psamathyr.psamathyr_calculate.Reads.Pre psamathyr.psamathyr_calculate.Reads.Learnt
psamathyr_calculate _ _ _ h g = (cc, cc)

pub psamathyr_edit : Settled psamathyr.psamathyr_edit.Kinds.ps psamathyr.psamathyr_edit.Kinds.r psamathyr.psamathyr_edit.Reads.Pre psamathyr.psamathyr_edit.Reads.Learnt
psamathyr_edit _ _ _ h g = (cc, (cc, cc))

pub psamathyr_read_log : Settled psamathyr.psamathyr_read_log.Kinds.ps psamathyr.psamathyr_read_log.Kinds.r psamathyr.psamathyr_read_log.Reads.Pre psamathyr.psamathyr_read_log.Reads.Learnt
psamathyr_read_log _ _ _ h g = cc

pub psamathyr_pack_log : Settled psamathyr.psamathyr_pack_log.Kinds.ps psamathyr.psamathyr_pack_log.Kinds.r psamathyr.psamathyr_pack_log.Reads.Pre psamathyr.psamathyr_pack_log.Reads.Learnt
psamathyr_pack_log _ _ _ h g = (cc, cc)

pub psamathyr_read_pile : Settled psamathyr.psamathyr_read_pile.Kinds.ps psamathyr.psamathyr_read_pile.Kinds.r psamathyr.psamathyr_read_pile.Reads.Pre psamathyr.psamathyr_read_pile.Reads.Learnt
psamathyr_read_pile _ _ _ h g = cc

pub psamathyr_pack_pile : Settled psamathyr.psamathyr_pack_pile.Kinds.ps psamathyr.psamathyr_pack_pile.Kinds.r psamathyr.psamathyr_pack_pile.Reads.Pre psamathyr.psamathyr_pack_pile.Reads.Learnt
psamathyr_pack_pile _ _ _ h g = (cc, cc)

pub psamathyr_read_slice : Settled psamathyr.psamathyr_read_slice.Kinds.ps psamathyr.psamathyr_read_slice.Kinds.r psamathyr.psamathyr_read_slice.Reads.Pre psamathyr.psamathyr_read_slice.Reads.Learnt
psamathyr_read_slice _ _ _ h g = cc
