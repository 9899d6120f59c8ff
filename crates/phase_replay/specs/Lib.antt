-- What a replay of calls answers, byte for byte.
pub mod Given
pub mod Told
pub mod Calls
pub mod Replay
