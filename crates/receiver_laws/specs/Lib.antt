-- Words of the receiver's laws.
pub mod Stores
pub mod Aligned
pub mod Softs
