-- What a spot of a table needs and gives.
pub mod Spots
