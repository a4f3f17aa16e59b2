-- The walk forward.
pub mod Noted
