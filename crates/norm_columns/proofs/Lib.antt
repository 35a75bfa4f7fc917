-- Laws of weights.
pub mod Means
