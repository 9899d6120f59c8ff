-- What a replay of calls answers, byte for byte.
pub mod Replay
