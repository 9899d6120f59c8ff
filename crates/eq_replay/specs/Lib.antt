-- What the replay program of equaliser and solver answers.
pub mod Replay
