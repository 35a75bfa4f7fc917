-- The laws that the proofs of the functions cite.
pub mod PlaceLaws
pub mod InputLaws
pub mod PageLaws
