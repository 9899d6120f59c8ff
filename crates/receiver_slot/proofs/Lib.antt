-- Laws of a corrected slot.
pub mod Aligned
pub mod Softs
pub mod Steps
pub mod Sized
pub mod Buffers
pub mod Fits
pub mod Filling
pub mod Full
pub mod Settled
pub mod Rest
pub mod Ahead
pub mod Stretches
