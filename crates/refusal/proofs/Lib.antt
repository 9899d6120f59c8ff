-- Laws of the definitions.
pub mod Answered
