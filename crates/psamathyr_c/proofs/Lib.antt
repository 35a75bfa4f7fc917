-- Every export's contract settles its reply.
pub mod Exports
