-- Laws that the functions' proofs cite.
pub mod Table
pub mod Refused
pub mod Compared
