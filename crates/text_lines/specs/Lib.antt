-- The room for a line, and a sheet while it is put together.
pub mod Lines
