-- Laws that the proofs of every crate cite.
pub mod Tests
pub mod Linear
pub mod Size
pub mod Product
pub mod Floor
pub mod First
pub mod Least
pub mod Lists
pub mod Made
pub mod Taken
