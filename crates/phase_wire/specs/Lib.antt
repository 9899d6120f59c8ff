-- Carrier, heads and slot phase as numbers.
pub mod Given
pub mod Told
