-- What is refused
pub mod Admitted
