-- The laws of lines and of a sheet put together from them, which the proofs here and the page's cite.
pub mod LineLaws
pub mod SheetLaws
