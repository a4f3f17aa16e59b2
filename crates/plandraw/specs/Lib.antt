-- What the program prints for some records.
pub mod Worked
