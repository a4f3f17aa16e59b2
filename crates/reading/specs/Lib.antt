-- Reading a record.
pub mod Answer
pub mod SameRefusal
