-- Definitions, in the sheet's words
pub mod Labels
pub mod Barred
pub mod Triple
pub mod Walk
pub mod Record
pub mod Refusal
pub mod Causes
pub mod Judged
pub mod Answer
-- Theorems, and what they rest on
pub mod Way
pub mod Sides
pub mod Runs
pub mod Decode
pub mod Positions
pub mod Read
pub mod Body
pub mod TripleNumber
pub mod Sizes
pub mod Demand1
pub mod Checked
-- A triple set in a record
pub mod TripleSet
pub mod M104
-- Rises and falls
pub mod Rises
-- Worked plans
pub mod Worked
