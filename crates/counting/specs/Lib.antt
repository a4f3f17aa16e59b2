-- Definitions
pub mod Counted
pub mod Answer
-- Theorems, and what they rest on
pub mod Accepted
pub mod Ways
pub mod AllWays
pub mod Sizes
