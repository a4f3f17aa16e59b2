-- Laws that the functions' proofs cite.
pub mod Labels
pub mod Putting
pub mod PartByPart
pub mod Whole
pub mod Read
