-- Laws that the functions' proofs cite.
pub mod Reached
pub mod Meeting
