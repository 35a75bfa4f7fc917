-- A reading in a column of table 7.3.
pub mod Columns
