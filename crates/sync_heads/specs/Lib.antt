-- The definitions that the contracts of sync_heads cite, written from document 01, "Slot sync and carrier", and `head_at`, `word_head` and
-- `new_frame`, which it names. n is the period, 9,296; a frame has 120 slots. `Heads.read_of` is a step of a fold over the readings.
pub mod Numbers
pub mod Words
pub mod Frames
pub mod Heads
pub mod Ranges
pub mod Ready
pub mod Given
