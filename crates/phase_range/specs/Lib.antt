-- Calls of a slot phase one after another, what is true of it, and what its slots hold.
pub mod Calls
pub mod Coherent
pub mod Slots
