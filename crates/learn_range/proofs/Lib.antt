-- The theorems, and what they rest on.
pub mod Kept
pub mod Parts
pub mod Theorems
