-- Checks 7 and 8 by themselves.
pub mod Depths
