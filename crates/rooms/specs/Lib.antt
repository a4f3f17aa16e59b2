-- Definitions, in the sheet's words
pub mod Outline
pub mod Causes
pub mod Segment
pub mod Orders
pub mod Direct
pub mod LabelList
pub mod Corners
pub mod Lists
pub mod Equivalent
pub mod SameButNames
-- Each is decided
pub mod Pick
pub mod Chain
pub mod OutlineLaws
pub mod DecideCauses
pub mod DecideSegment
-- Theorems
pub mod GridFloorplan
-- What they rest on: a room list as a plan
pub mod Plan
pub mod EdgesAtPoint
pub mod FourCorners
pub mod PlanOf
-- the relations of a plan
pub mod SharedRow
pub mod LeftThrough
pub mod UpperRight
pub mod Staircase
pub mod UpsideDown
pub mod TwoOrders
pub mod FourRelations
-- segments, and the relations of a list
pub mod Runs
pub mod Ranks
-- the grid drawing
pub mod GridRelations
