-- How answers cross to C: docs/DECISIONS.md, F.3.
pub mod Api
pub mod Arrays
pub mod Stages
