-- What waits in the alignment as numbers.
pub mod Line
