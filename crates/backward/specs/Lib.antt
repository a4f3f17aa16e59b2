-- The walk back.
pub mod Written
