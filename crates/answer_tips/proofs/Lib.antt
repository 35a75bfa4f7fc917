-- Laws of a tip in sand, which the proofs of the functions cite.
pub mod SandLaws
