-- The definitions that the contracts of eq_fir cite, written from document 01, "Phase, equaliser, solver, demapper".
pub mod Fir
pub mod Rows
