-- What it is to put text into a buffer, and a number's digits.
pub mod Text
pub mod Digits
