-- What the definitions come to.
pub mod Theorems
