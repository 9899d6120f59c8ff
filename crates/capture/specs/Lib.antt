-- What a capture's bytes mean: document 01, "Capture", and its rows of "Refusals".
pub mod Bytes
pub mod Contents
pub mod Bodies
pub mod Capture
pub mod Blocks
pub mod Claims
pub mod Worked
