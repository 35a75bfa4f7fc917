-- Laws of the row rule of table 7.3.
pub mod Steps
