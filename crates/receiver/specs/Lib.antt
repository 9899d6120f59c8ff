-- What a receiver is and what each of its calls means, written from document 01, "The receiver" and "Refusals". n is the period, 9,296.
pub mod Started
pub mod Heads
pub mod Symbol
pub mod Ranges
pub mod Answers
pub mod Feed
