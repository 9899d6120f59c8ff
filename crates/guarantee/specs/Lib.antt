-- Demand 3 of the order: calls and what they tell; what happened, from the calls alone; the claim.
pub mod Calls
pub mod History
pub mod Demand
pub mod Feeds
pub mod Items
