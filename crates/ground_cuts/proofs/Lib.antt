-- Laws of one slice, and that every slice fits its bits.
pub mod SliceLaws
pub mod FitLaws
