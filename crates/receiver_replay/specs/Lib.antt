-- What the replay program of the receiver answers.
pub mod Given
pub mod Calls
pub mod Replay
