-- Laws of a table while it is filled, and its round trips.
pub mod TableLaws
pub mod RoundTrip
