pub mod Laws
pub mod Events
pub mod Hearing
pub mod Ready
pub mod Symbols
