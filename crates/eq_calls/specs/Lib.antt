-- What calls of equaliser and solver answer and leave.
pub mod Kept
pub mod Given
pub mod Told
pub mod Calls
pub mod Turns
