-- Definitions beside the rules.
pub mod Split
