-- Laws of the reply.
pub mod ReplyLaws
pub mod KindLaws
