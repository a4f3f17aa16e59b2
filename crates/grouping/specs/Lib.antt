-- What the functions find
pub mod Ends
-- Theorems
pub mod M109
