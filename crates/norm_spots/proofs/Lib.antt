-- Laws of reading a table, which the proofs of the functions cite.
pub mod Rows
pub mod Weights
