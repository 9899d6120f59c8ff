pub mod Calm
pub mod Stand
