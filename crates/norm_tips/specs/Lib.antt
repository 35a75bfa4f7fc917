-- What a reading of table 7.8 goes through.
pub mod Cells
