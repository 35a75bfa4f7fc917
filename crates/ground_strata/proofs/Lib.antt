-- Laws of the walk along a log's rows.
pub mod LogLaws
pub mod StratumLaws
pub mod OneStratum
