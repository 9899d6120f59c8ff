-- What was received says what calls come to: Theorems.
pub mod Stretches
pub mod Theorems
pub mod Slots
pub mod Worked
