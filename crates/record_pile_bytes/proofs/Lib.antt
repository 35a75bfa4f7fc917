-- A pile record's ten bytes, and its round trips.
pub mod TenBytes
pub mod RoundTrip
