-- Laws that the functions' proofs cite.
pub mod Found
pub mod Answered
