-- Demand 3 of the calls, and the drawing that comes back.
pub mod Demand3
pub mod M106
