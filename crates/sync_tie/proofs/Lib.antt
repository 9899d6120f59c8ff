-- From the window up to the tie, and from the tie to the claims.
pub mod Story
pub mod Window
pub mod Places
pub mod Track
pub mod Step
pub mod Follow
pub mod Told
pub mod Kept
pub mod Heads
pub mod Early
pub mod Ruled
pub mod Markers
pub mod Says
pub mod Theorems
pub mod Claims
pub mod Entries
