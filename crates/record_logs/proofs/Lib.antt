-- Laws of a log that is read.
pub mod ReadLaws
