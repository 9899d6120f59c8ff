-- What the replay program of the alignment answers.
pub mod Kept
pub mod Given
pub mod Told
pub mod Calls
pub mod Replay
