-- The laws that the proofs of the functions cite.
pub mod Scan
pub mod Places
