pub mod Computed
pub mod M112
