-- The definitions that the contracts of phase_bench cite.
pub mod Blocks
pub mod Slots
