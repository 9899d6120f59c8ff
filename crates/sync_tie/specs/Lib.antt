-- What happened in a list of pushes, and the claim that the step tells it.
pub mod Pushes
pub mod Stretch
pub mod Tie
pub mod Claims
