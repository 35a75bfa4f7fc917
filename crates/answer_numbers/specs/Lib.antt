-- What the numbers ask of a pile.
pub mod Sides
