pub mod DirectFacts
pub mod GridDirect
pub mod GridSegments
pub mod GridTouches
pub mod InnerFacts
pub mod M101
pub mod M102
pub mod TouchFacts
