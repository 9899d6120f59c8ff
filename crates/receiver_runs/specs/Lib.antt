-- Short runs of a receiver, what the Rust's stages tell in them, and refused calls.
pub mod Play
pub mod Traces
pub mod Refused
pub mod Claims
