-- Laws of a row and its bytes.
pub mod RowLaws
