-- Laws of the correlation.
pub mod Laws
