-- Definitions beside the rules: what the moves leave.
pub mod Places
