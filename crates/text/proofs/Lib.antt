-- What reading a record for a plan gives.
pub mod Reading
