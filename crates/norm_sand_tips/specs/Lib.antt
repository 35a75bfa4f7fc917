-- How large the terms of R of a tip in sand get.
pub mod Terms
