-- Laws of a pile's sides, and of what they are multiplied by.
pub mod SideLaws
