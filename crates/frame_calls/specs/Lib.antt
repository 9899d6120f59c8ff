-- Calls of an alignment, what was received by them (document 01, "The receiver" and "Refusals"), and what is claimed of the two.
pub mod Calls
pub mod Received
pub mod Claims
pub mod Slots
pub mod Worked
