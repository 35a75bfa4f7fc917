-- One slice of the shaft.
pub mod Cuts
