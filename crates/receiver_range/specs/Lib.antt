-- The joint invariant of a receiver that came from calls: docs/RANGES.md, "Receiver".
pub mod Coherent
pub mod Calls
