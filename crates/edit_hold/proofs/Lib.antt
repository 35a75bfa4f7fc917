-- Laws that the proof of the function cites.
pub mod HoldLaws
