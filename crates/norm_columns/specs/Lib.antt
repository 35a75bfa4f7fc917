-- Which column a reading has.
pub mod Across
