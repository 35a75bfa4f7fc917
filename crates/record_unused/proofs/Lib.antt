-- Laws of a log's count and its unused places.
pub mod BlankLaws
pub mod CountLaws
