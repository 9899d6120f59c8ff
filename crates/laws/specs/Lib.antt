-- Words that the definitions of every crate are written in.
pub mod Choice
pub mod Ranges
