-- Laws of what is worked out.
pub mod WorkLaws
