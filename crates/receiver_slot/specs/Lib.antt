-- The definitions that the contracts of receiver_slot cite, written from document 01, "The receiver" and "Refusals". n is the period, 9,296.
pub mod Slot
pub mod Aligned
pub mod Ranges
pub mod Steps
pub mod Full
