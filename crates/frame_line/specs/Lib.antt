-- The definitions that the contracts of frame_line cite, written from document 01, "The receiver" and "Refusals".
pub mod Line
pub mod Ranges
pub mod Waiting
