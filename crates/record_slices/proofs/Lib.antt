-- Laws of a place of a slice table, and its round trips.
pub mod RoundTrip
pub mod SliceLaws
