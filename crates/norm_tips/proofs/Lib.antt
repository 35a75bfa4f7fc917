-- Laws of table 7.8, which the proofs of the functions cite.
pub mod Printing
pub mod Dashes
