-- The definitions that the contracts of eq_bench cite.
pub mod Blocks
