-- Numbers as bytes, and what a program that replays calls writes.
pub mod Wire
pub mod Blocks
