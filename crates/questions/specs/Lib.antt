-- The question.
pub mod Answer
pub mod Demand1
pub mod OfRooms
pub mod M101
pub mod M102
