-- The definitions that the contracts of eq_train cite, written from document 01, "Phase, equaliser, solver, demapper" and "Refusals".
pub mod Train
pub mod Ranges
pub mod Sound
pub mod Steps
