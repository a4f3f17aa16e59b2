-- Laws that the functions' proofs cite.
pub mod Zero
pub mod Signed
pub mod Admitted
pub mod Calls
