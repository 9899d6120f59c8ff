-- Laws of the definitions.
pub mod Laws
pub mod Worked
pub mod Digits
