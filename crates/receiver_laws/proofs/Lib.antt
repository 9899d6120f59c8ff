-- Laws of the receiver's definitions.
pub mod Heads
pub mod Stores
pub mod Aligned
pub mod Softs
