-- What happened, written from document 01, "Slot sync and carrier" and "The receiver", with no state in it.
pub mod History
pub mod Heads
pub mod Claims
