-- What the functions speak of
pub mod Twice
-- What they rest on
pub mod Seen
