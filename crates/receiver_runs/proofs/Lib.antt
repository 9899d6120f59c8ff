-- Short runs by computing. Each unfolding line names every definition that is computed with.
pub mod Slots
pub mod Periods
pub mod Markers
pub mod Refused
pub mod Theorems
