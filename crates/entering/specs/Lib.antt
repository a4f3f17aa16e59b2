-- Rooms in.
pub mod Answer
pub mod Demand1
pub mod M106
pub mod Worked
-- The copied rooms, and laws that the functions' proofs cite
pub mod Copied
pub mod Named
pub mod Gathered
pub mod Written
