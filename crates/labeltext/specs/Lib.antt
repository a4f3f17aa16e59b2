-- Definitions, in the request's words
pub mod Form
pub mod Tidy
pub mod Answer
-- Whether a text keeps the form, decided
pub mod Symbol
pub mod Reader
pub mod LineRead
pub mod ReadLine
pub mod LineOf
pub mod Decide
-- Theorems, and what they rest on
pub mod Demand1
pub mod TidyLists
pub mod TidySize
pub mod M100
pub mod Worked
