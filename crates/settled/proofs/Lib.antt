-- Every public contract settles its reply.
pub mod Settled
pub mod Outcomes
pub mod Base
pub mod Norm
pub mod Record
pub mod Ground
pub mod Answer
pub mod Edit
pub mod Text
pub mod Door
