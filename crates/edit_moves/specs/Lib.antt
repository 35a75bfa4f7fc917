-- Definitions beside the rules: what the moves leave of a log's bytes.
pub mod Moves
