-- Laws that the proofs of the functions cite, and that the moves of a log of rows are splices.
pub mod PartLaws
pub mod MoveLaws
