-- The definitions that the contracts of sync cite, written from document 01, "Slot sync and carrier" and "Refusals".
pub mod Sync
pub mod Answers
