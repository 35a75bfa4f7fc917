-- Laws of the row rule of table 7.8.
pub mod Rules
