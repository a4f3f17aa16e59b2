-- The pass over the labels.
pub mod Encoded
-- Laws of it: one label of each run, and what the marks say of earlier positions
pub mod Picks
pub mod Marked
