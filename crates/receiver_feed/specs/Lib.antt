-- The definitions that the contracts of receiver_feed cite: the answer of a feed, and how it is gone through.
pub mod Answers
pub mod Quiet
pub mod Turns
