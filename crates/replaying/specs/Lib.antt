-- What the replay's code does, move by move.
pub mod Packed
pub mod Turn
pub mod Passes
