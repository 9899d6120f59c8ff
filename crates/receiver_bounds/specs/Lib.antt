-- The ranges of a receiver's parts, number by number.
pub mod Bounds
