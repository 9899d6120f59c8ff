-- The definitions that the contracts of fx cite, written from document 01, "Arithmetic" and "Refusals".
pub mod Fx
pub mod Cordic
pub mod Scale
pub mod Answers
