-- The definitions that the contracts of eq cite, written from document 01, "Phase, equaliser, solver, demapper" and "Refusals".
pub mod Eq
pub mod Ranges
pub mod Answers
