-- Laws of the method factor.
pub mod Laws
