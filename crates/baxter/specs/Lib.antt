-- Definitions
pub mod Formula
pub mod Lists
-- Theorems, and what they rest on
pub mod Rows
pub mod Paired
