-- Definitions beside the rules.
pub mod Depths
