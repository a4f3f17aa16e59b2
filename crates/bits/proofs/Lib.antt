-- The laws that the proofs of the functions cite.
pub mod Digit
pub mod Put
pub mod Word
pub mod WordGroup
pub mod Eight
pub mod Pack
