-- Reading on in a book, and adding to it: what the functions find on their way.
pub mod Found
