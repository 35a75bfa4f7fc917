-- What the product promises, and the laws of edits and runs of edits that it cites.
pub mod TwoTables
pub mod AcceptedEdits
pub mod Room
pub mod AfterRun
pub mod Promises
