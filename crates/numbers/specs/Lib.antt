pub mod Places
pub mod Number
pub mod Store
