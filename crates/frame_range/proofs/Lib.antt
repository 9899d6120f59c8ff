-- Calls keep the joint invariant, and it implies the ranges.
pub mod Theorems
