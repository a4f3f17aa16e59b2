-- Definitions that the contracts cite
pub mod Starts
pub mod AlongLine
pub mod Sized
pub mod Ranked
pub mod Joined
pub mod Turns
pub mod Walks
pub mod InOrder
pub mod PairedPlan
-- The rule of the next room
pub mod Successor
pub mod NextRoom
pub mod PlanOrders
pub mod CornerLists
