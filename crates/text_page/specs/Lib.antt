-- What a page is, and a table of slices that it is laid out from.
pub mod Places
pub mod Pages
