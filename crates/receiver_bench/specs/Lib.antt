-- The definitions that the contracts of receiver_bench cite.
pub mod Streams
