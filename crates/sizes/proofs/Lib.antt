pub mod Lines
pub mod LowestLaws
pub mod M108
pub mod OfRooms
pub mod OneWay
pub mod Turned
