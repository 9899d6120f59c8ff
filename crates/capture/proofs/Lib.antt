-- Laws of the definitions, and what is claimed of them.
pub mod Laws
pub mod Prefix
pub mod Shares
pub mod Theorems
pub mod Worked
