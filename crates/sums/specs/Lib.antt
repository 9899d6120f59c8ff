-- The training sums: document 01, "Phase, equaliser, solver, demapper".
pub mod Sums
