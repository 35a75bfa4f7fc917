-- Laws of the shaft's slices.
pub mod CutLaws
