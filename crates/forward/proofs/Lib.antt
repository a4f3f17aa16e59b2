-- Laws that the proof of the walk cites.
pub mod Count
pub mod Starts
