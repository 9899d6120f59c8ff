-- The definitions that the contracts of in_force cite, written from document 01, "Refusals" and "Phase, equaliser, solver, demapper", and
-- `InForce` of chain/demap.rs; and the words of the theorems.
pub mod InForce
pub mod Answers
