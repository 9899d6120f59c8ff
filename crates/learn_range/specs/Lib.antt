-- Calls that learn, one after another, and what is true of what they leave.
pub mod Coherent
pub mod Calls
