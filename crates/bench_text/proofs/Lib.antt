-- Laws of lines and pages.
pub mod Laws
pub mod Pages
pub mod Theorems
