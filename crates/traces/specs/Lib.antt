-- Definitions, in the request's words
pub mod Move
pub mod State
pub mod Replay
pub mod Answer
-- Theorems
pub mod Sizes
-- What they and the code rest on
pub mod Newest
pub mod Cause
pub mod Row
pub mod Still
pub mod Bytes
-- Worked examples
pub mod Worked
