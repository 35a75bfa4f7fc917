-- Where a mid-depth stands in table 7.3.
pub mod Standings
