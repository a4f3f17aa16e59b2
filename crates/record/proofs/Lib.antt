pub mod Forward
pub mod NextTo
pub mod Backward
pub mod Demand2
pub mod Demand2Read
pub mod Entered
pub mod Newest
pub mod Rising
