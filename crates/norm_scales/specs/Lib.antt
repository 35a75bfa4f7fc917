-- What a reading of a printed scale needs and gives.
pub mod Scales
