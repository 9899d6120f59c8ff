-- What calls of a receiver that take no store answer and leave.
pub mod Kept
pub mod Given
pub mod Told
pub mod Calls
pub mod Turns
