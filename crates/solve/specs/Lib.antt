-- The definitions that the contracts of solve cite, written from document 01, "Phase, equaliser, solver, demapper" and "Refusals", and from
-- `solve_float` and `solve_sums` of chain/eq.rs.
pub mod System
pub mod Taps
pub mod Answers
