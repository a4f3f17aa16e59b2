-- What the functions of the search say to one another.
pub mod Places
pub mod Search
