-- Record in.
pub mod Answer
pub mod Demand1
-- What the code hands on
pub mod Leaves
pub mod Corners
-- What reading a record leaves is its drawing
pub mod Drawn
