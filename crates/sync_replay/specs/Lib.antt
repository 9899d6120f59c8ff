-- What a replay of calls answers, number for number.
pub mod Mixing
pub mod Given
pub mod Told
pub mod Desk
