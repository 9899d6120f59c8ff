-- Laws of the heads.
pub mod Laws
