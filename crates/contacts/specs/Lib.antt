-- Definitions, in the requests' words
pub mod Inner
pub mod Touches
pub mod DecideTouches
pub mod Direct
pub mod GridLine
-- What the theorems rest on
pub mod ByPosition
pub mod GridEdges
pub mod GridOutline
-- Worked plans
pub mod Worked
