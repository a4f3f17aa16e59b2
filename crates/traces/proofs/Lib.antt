pub mod Adding
pub mod Demand1
pub mod M111
pub mod Row
pub mod Sizes
pub mod Still
