-- What the bits of a list of bytes are, the three-bit groups in them, and laws on both.
pub mod Bit
pub mod Word
pub mod Eight
