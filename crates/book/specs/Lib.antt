-- Definitions, in the request's words
pub mod Book
pub mod Summary
pub mod Answer
pub mod Course
-- Theorems, and what they rest on
pub mod Parts
pub mod Checks
pub mod Demand1
pub mod Joined
pub mod Totals
pub mod NoneAfter
pub mod ReadingOn
pub mod Adding
pub mod M107
pub mod Worked
