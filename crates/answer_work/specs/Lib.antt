-- What a work that may be refused comes to.
pub mod Outcomes
