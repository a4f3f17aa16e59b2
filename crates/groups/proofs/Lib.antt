pub mod ByExtremes
pub mod Demand1
pub mod M109
pub mod OfRooms
pub mod StandingFacts
pub mod Pairs
