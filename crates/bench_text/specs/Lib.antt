-- What an answer prints, and how that goes by pages.
pub mod Bench
pub mod Pages
pub mod Claims
