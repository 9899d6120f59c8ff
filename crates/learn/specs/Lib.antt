-- The definitions that the contracts of learn cite, written from document 01, "Refusals" and "Phase, equaliser, solver, demapper", and `Learn`
-- of chain/demap.rs; and the words of the theorems.
pub mod Sets
pub mod Learning
pub mod Ranges
pub mod Answers
