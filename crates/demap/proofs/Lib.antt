-- Laws of the definitions, and the theorems about them.
pub mod Distances
pub mod Tables
pub mod Fold
pub mod Stage
pub mod Blocks
pub mod Accepted
pub mod Softs
pub mod Labels
pub mod Theorems
