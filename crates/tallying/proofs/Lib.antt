-- Laws that the functions' proofs cite.
pub mod Rows
pub mod Sweeping
pub mod Start
pub mod Counts
pub mod Totals
