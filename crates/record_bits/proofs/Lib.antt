-- Laws of zero bytes, and of the fields of a word.
pub mod BitLaws
pub mod FieldLaws
