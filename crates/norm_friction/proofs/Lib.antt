-- Laws of table 7.3, which the proofs of the functions cite.
pub mod Reading
