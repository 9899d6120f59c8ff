-- The joint invariant of an equaliser that came from calls (docs/RANGES.md, "Equaliser"), and what its outputs and sums say of the calls.
pub mod Coherent
pub mod Calls
pub mod History
