-- What the walks give
pub mod Along
-- What a turn needs
pub mod Room
