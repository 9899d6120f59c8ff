-- What the functions between the entry and the definitions of crate receiver give and need.
pub mod Parts
