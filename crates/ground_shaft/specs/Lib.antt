-- The shaft cut into slices.
pub mod Shafts
