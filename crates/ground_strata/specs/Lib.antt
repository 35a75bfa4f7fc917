-- A stratum along the rows of a log.
pub mod Strata
