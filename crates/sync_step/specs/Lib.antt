-- The definitions that the contracts of sync_step cite, written from document 01, "Slot sync and carrier". n is the period, 9,296.
pub mod Events
pub mod Step
pub mod Ranges
