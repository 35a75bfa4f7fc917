-- A law that a proof cites.
pub mod NamingLaws
