-- Laws of the checks of a log.
pub mod RowsLaws
pub mod CheckedLaws
