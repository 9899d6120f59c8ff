-- The theorems, and what they rest on.
pub mod Steps
pub mod Theorems
