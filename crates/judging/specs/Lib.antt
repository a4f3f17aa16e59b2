-- Judging a record.
pub mod Judge
pub mod Packed
-- Laws of the checks, which reading the labels cites too
pub mod Passed
-- The body by itself, for walks along it
pub mod Walkable
