-- Laws that the functions' proofs cite.
pub mod Bytes
pub mod Standing
pub mod Asking
