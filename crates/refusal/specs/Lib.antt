-- Refusals.
pub mod Refusals
