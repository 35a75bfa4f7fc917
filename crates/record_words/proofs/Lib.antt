-- Laws of bytes as one number.
pub mod NumberLaws
