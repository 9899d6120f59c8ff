-- The definitions that the contracts of solve_step cite, written from document 01, "Phase, equaliser, solver, demapper", and from `solve` of phy eq.rs.
pub mod Complex
pub mod Pivot
pub mod Eliminate
pub mod Back
