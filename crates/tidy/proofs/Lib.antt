pub mod Fields
pub mod Put
pub mod Labels
pub mod Listed
