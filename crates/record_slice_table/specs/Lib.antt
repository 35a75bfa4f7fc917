-- A slice in the lent table.
pub mod Table
