-- What the contracts of the inner functions cite.
pub mod Plane
pub mod Shows
