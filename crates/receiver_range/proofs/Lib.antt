-- The joint invariant is kept by every call.
pub mod Codes
pub mod InRange
pub mod Starts
pub mod Push
pub mod Slots
pub mod Even
pub mod Tells
pub mod Events
pub mod Heads
pub mod Symbols
pub mod Theorems
