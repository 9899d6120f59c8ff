-- The definitions that the contracts of frame cite, written from document 01, "The receiver" and "Refusals".
pub mod Align
pub mod Ranges
pub mod Answers
pub mod Stretch
