-- That each contract of the layers rules and base settles its reply.
use mathlib.Core.Path.{refl}
use Rattle.settled.proofs.Settled.{Settled}
use Rattle.rules.proofs as rules
use Rattle.base_copies.proofs as base_copies

pub row_field_number : Settled rules.faults.U32FromRowField.from.Kinds.ps rules.faults.U32FromRowField.from.Kinds.r rules.faults.U32FromRowField.from.Reads.Pre rules.faults.U32FromRowField.from.Reads.Learnt
row_field_number _ _ _ h g = cc

pub pile_field_number : Settled rules.faults.U32FromPileField.from.Kinds.ps rules.faults.U32FromPileField.from.Kinds.r rules.faults.U32FromPileField.from.Reads.Pre rules.faults.U32FromPileField.from.Reads.Learnt
pile_field_number _ _ _ h g = cc

pub refusal_of : Settled rules.faults.RefusalFromFault.from.Kinds.ps rules.faults.RefusalFromFault.from.Kinds.r rules.faults.RefusalFromFault.from.Reads.Pre rules.faults.RefusalFromFault.from.Reads.Learnt
refusal_of _ _ _ h g = cc

pub refusal_in : Settled rules.refusal_in.Kinds.ps rules.refusal_in.Kinds.r rules.refusal_in.Reads.Pre rules.refusal_in.Reads.Learnt
refusal_in _ _ _ h g = cc

pub refused : Settled rules.conversions.AnswerFromRefusal.from.Kinds.ps rules.conversions.AnswerFromRefusal.from.Kinds.r rules.conversions.AnswerFromRefusal.from.Reads.Pre rules.conversions.AnswerFromRefusal.from.Reads.Learnt
refused _ _ _ h g = cc

pub sand_given : Settled rules.conversions.OptionSandNumbersFromSandFields.from.Kinds.ps rules.conversions.OptionSandNumbersFromSandFields.from.Kinds.r rules.conversions.OptionSandNumbersFromSandFields.from.Reads.Pre rules.conversions.OptionSandNumbersFromSandFields.from.Reads.Learnt
sand_given _ _ _ h g = cc

pub pile_of_read : Settled rules.conversions.PileFromPileRead.from.Kinds.ps rules.conversions.PileFromPileRead.from.Kinds.r rules.conversions.PileFromPileRead.from.Reads.Pre rules.conversions.PileFromPileRead.from.Reads.Learnt
pile_of_read _ _ _ h g = cc

pub pile_told : Settled rules.PileRead.told.Kinds.ps rules.PileRead.told.Kinds.r rules.PileRead.told.Reads.Pre rules.PileRead.told.Reads.Learnt
pile_told _ _ _ h g = cc

pub copy_in : Settled base_copies.copy_in.Kinds.ps base_copies.copy_in.Kinds.r base_copies.copy_in.Reads.Pre base_copies.copy_in.Reads.Learnt
copy_in _ _ _ h g = (refl, cc)
