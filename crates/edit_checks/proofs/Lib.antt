-- Laws that the proofs of the functions cite, and what the checks leave known.
pub mod RowChecks
pub mod ChangeChecks
