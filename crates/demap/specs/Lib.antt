-- The definitions that the contracts of demap cite, written from document 01, "Phase, equaliser, solver, demapper" and "Refusals".
pub mod Demap
pub mod Answers
pub mod Folds
