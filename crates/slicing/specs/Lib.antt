-- Definitions, in the sheet's words
pub mod Slicing
pub mod Cuts
pub mod Tree
pub mod Cutting
pub mod Answer
pub mod OfRooms
-- Theorems, and what they rest on
pub mod Demand1
pub mod Split
pub mod Blocks
pub mod TreeMap
pub mod Worked
-- What the tree writer rests on
pub mod Places
pub mod Interval
