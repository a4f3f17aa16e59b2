-- Laws that the functions' proofs cite.
pub mod Sizes
pub mod BookSizes
