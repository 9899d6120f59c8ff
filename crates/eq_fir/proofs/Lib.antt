pub mod Laws
pub mod Bytes
pub mod Filter
pub mod Windows
