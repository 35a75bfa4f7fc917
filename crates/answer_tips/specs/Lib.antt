-- What the work on a tip gives.
pub mod Tips
