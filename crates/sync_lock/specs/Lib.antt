-- The definitions that the contracts of sync_lock cite, written from document 01, "Slot sync and carrier". n is the period, 9,296.
pub mod Period
pub mod Rule
pub mod Ranges
