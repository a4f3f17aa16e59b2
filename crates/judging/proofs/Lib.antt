-- Laws that the functions' proofs cite.
pub mod Spare
pub mod Packing
pub mod Past
