-- Laws of the calculation.
pub mod CheckedLaws
