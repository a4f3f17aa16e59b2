-- Definitions, in the request's words
pub mod Pattern
pub mod Answer
-- Theorems, and what they rest on
pub mod FirstOne
-- What the search rests on
pub mod Sides
pub mod Scope
pub mod Completion
