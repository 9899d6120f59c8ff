-- Words, slots and correlations as numbers.
pub mod Slots
