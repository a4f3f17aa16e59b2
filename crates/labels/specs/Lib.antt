-- The verdict on a label list.
pub mod Verdict
-- What it tells of the list
pub mod Verdicts
