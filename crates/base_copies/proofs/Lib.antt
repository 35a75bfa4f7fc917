-- Laws of bytes copied.
pub mod CopyLaws
