pub mod Code
pub mod PatternNumber
pub mod TraceNumber
pub mod Size
