-- A slot sync as numbers.
pub mod Parts
pub mod Given
pub mod Told
