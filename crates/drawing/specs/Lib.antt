-- Definitions, in the sheet's words
pub mod Drawing
pub mod Side
-- What the code writes, and what it asks of two rooms
pub mod Corners
pub mod InnerLine
pub mod Within
-- Theorems, and what they rest on
pub mod SideFacts
pub mod Nearest
pub mod Walked
pub mod Squares
pub mod Tiling
-- The sheet's worked drawing
pub mod Worked
