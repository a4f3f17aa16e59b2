-- Laws.
pub mod Drawn
