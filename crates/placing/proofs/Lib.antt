-- Laws that the functions' proofs cite.
pub mod Rooms
pub mod Lowering
