-- Laws of table 7.7, which the proofs of the functions cite.
pub mod LineLaws
