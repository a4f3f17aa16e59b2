pub mod Filled
pub mod Picked
pub mod Turns
pub mod Begun
pub mod Passing
