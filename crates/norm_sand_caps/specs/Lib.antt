-- What a column of table 7.2 is read to.
pub mod Columns
