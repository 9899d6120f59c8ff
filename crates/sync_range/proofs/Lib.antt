-- Calls keep the joint invariant, and it implies the ranges: Theorems.
pub mod Window
pub mod Corr
pub mod Tally
pub mod Locks
pub mod Heads
pub mod Steps
pub mod Within
pub mod Theorems
