-- Calls keep the joint invariant, and it implies the ranges; outputs and sums by the calls before them: Theorems.
pub mod Kept
pub mod Theorems
