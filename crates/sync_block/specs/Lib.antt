-- The definitions that the contracts of sync_block cite: how far a run stays quiet, and what a quiet symbol does.
pub mod Reach
pub mod Quiet
