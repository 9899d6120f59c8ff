-- The definitions that the contracts of sync_bench cite.
pub mod Streams
