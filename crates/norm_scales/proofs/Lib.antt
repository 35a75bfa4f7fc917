-- Laws of the printed scales, which the proofs of the functions cite.
pub mod Rules
pub mod ScaleLaws
