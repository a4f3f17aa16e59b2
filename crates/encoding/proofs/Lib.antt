-- Laws that the functions' proofs cite.
pub mod Part
pub mod Partly
pub mod Stack
pub mod Passed
pub mod Turn
