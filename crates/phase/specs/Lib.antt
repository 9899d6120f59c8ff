-- The definitions that the contracts of phase cite, written from document 01, "Phase, equaliser, solver, demapper" and "Refusals".
pub mod Phase
pub mod Ranges
pub mod Answers
