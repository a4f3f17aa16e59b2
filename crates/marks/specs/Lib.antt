-- What the functions speak of
pub mod Seen
-- What is promised of it
pub mod M110
