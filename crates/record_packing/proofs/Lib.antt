-- Laws of packing a log, and its round trips.
pub mod PackLaws
pub mod RoundTrip
