-- Laws that the proof of the walk cites.
pub mod Back
pub mod Within
pub mod Ends
