-- Definitions
pub mod Form
pub mod View
pub mod Shown
pub mod Places
-- Laws
pub mod Puts
pub mod Filled
pub mod FilledStore
pub mod Viewed
pub mod Written
