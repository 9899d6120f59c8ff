-- The joint invariant of a slot sync that came from calls: docs/RANGES.md, "Slot sync".
pub mod Coherent
pub mod Calls
