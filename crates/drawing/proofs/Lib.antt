-- The laws that the proofs of the functions cite.
pub mod Cases
pub mod SideFacts
