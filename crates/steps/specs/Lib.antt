-- One step of the walk.
pub mod Turn
pub mod Counts
pub mod Passes
-- Laws of them: the table in one line, a triple in numbers, a stack in an array
pub mod Table
pub mod Told
pub mod Stack
