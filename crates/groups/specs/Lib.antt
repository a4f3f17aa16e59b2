-- Definitions, in the request's words
pub mod Group
pub mod Standing
pub mod Answer
-- What the theorems and the code rest on
pub mod Pairs
pub mod Extremes
-- Worked examples
pub mod Worked
