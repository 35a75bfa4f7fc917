-- Laws of table 7.2, which the proofs of the functions cite.
pub mod ColumnLaws
