-- The joint invariant of an alignment that came from calls (docs/RANGES.md, "Alignment").
pub mod Coherent
