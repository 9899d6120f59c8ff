-- A receiver's parts as numbers.
pub mod With
pub mod Put
pub mod Told
pub mod Turns
