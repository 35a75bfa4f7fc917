-- That each contract of the exports settles its reply, as crates/settled has it of the functions that they call.
use Rattle.settled.proofs.Settled.{Settled}
use Rattle.psamathyr_c.proofs as psamathyr_c

pub psamathyr_calculate : Settled psamathyr_c.psamathyr_calculate.Kinds.ps psamathyr_c.psamathyr_calculate.Kinds.r psamathyr_c.psamathyr_calculate.Reads.Pre psamathyr_c.psamathyr_calculate.Reads.Learnt
psamathyr_calculate _ _ _ h g = (cc, cc)

pub psamathyr_edit : Settled psamathyr_c.psamathyr_edit.Kinds.ps psamathyr_c.psamathyr_edit.Kinds.r psamathyr_c.psamathyr_edit.Reads.Pre psamathyr_c.psamathyr_edit.Reads.Learnt
psamathyr_edit _ _ _ h g = (cc, (cc, cc))

pub psamathyr_read_log : Settled psamathyr_c.psamathyr_read_log.Kinds.ps psamathyr_c.psamathyr_read_log.Kinds.r psamathyr_c.psamathyr_read_log.Reads.Pre psamathyr_c.psamathyr_read_log.Reads.Learnt
psamathyr_read_log _ _ _ h g = cc

pub psamathyr_pack_log : Settled psamathyr_c.psamathyr_pack_log.Kinds.ps psamathyr_c.psamathyr_pack_log.Kinds.r psamathyr_c.psamathyr_pack_log.Reads.Pre psamathyr_c.psamathyr_pack_log.Reads.Learnt
psamathyr_pack_log _ _ _ h g = (cc, cc)

pub psamathyr_read_pile : Settled psamathyr_c.psamathyr_read_pile.Kinds.ps psamathyr_c.psamathyr_read_pile.Kinds.r psamathyr_c.psamathyr_read_pile.Reads.Pre psamathyr_c.psamathyr_read_pile.Reads.Learnt
psamathyr_read_pile _ _ _ h g = cc

pub psamathyr_pack_pile : Settled psamathyr_c.psamathyr_pack_pile.Kinds.ps psamathyr_c.psamathyr_pack_pile.Kinds.r psamathyr_c.psamathyr_pack_pile.Reads.Pre psamathyr_c.psamathyr_pack_pile.Reads.Learnt
psamathyr_pack_pile _ _ _ h g = (cc, cc)

pub psamathyr_read_slice : Settled psamathyr_c.psamathyr_read_slice.Kinds.ps psamathyr_c.psamathyr_read_slice.Kinds.r psamathyr_c.psamathyr_read_slice.Reads.Pre psamathyr_c.psamathyr_read_slice.Reads.Learnt
psamathyr_read_slice _ _ _ h g = cc
