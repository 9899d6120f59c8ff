-- The definitions that the contracts of sync_corr cite, written from document 01, "Slot sync and carrier" and "Refusals".
pub mod Correlate
pub mod Rows
