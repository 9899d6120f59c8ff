-- The theorems about the lock, on the sizes alone, and about the heads, on the readings alone. specs/Claims.antt has the statements, Theorems the proofs of them all.
pub mod Figures
pub mod Lead
pub mod Accumulators
pub mod Locks
pub mod Rule
pub mod Firsts
pub mod Found
pub mod Sway
pub mod Course
pub mod Read
pub mod Runs
pub mod Marks
pub mod Theorems
