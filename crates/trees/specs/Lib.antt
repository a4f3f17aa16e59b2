-- What the contracts of the tree writer's functions cite.
pub mod Block
pub mod Written
