-- Definitions, in the request's words
pub mod Direction
pub mod Lowest
pub mod Placing
pub mod Lists
pub mod Sized
pub mod Placed
pub mod Answer
-- Theorems
pub mod Demand1
-- What they and the code rest on
pub mod CornersFacts
pub mod SlackFacts
pub mod SideFacts
pub mod Behind
-- The walk along a record's triples
pub mod Stacked
-- Worked examples
pub mod Worked
