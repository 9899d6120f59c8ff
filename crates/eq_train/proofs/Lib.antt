-- Laws of eq_train, and what is proved of its definitions.
pub mod Adding
pub mod Places
pub mod Tested
pub mod Bounds
pub mod Laws
pub mod Theorems
