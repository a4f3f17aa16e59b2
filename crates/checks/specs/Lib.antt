-- What the functions speak of
pub mod CornerLists
pub mod Area
pub mod Verdict
-- What they rest on
pub mod Areas
pub mod Filling
pub mod Accepted
