-- What the program planlist prints.
pub mod Text
-- Laws.
pub mod Lines
