-- Definitions beside the rules.
pub mod Asked
