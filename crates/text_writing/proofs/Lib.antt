-- The laws that the proofs of the functions, and those of the lines, cite.
pub mod PutLaws
pub mod DigitLaws
pub mod SpacedLaws
