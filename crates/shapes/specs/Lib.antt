-- What the program plandraw prints.
pub mod Picture
pub mod M101
-- What the functions over a store ask.
pub mod Plan
