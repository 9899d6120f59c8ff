-- The definitions that the contracts of carrier cite, written from document 01, "Slot sync and carrier" and "Refusals"; and the words of
-- the theorems.
pub mod Carrier
pub mod Ranges
pub mod Answers
pub mod Coherent
pub mod Calls
pub mod Settings
