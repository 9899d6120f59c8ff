-- The bench program's lines: document 01, "Capture", "Lines".
pub mod Decimal
pub mod Place
pub mod Lines
pub mod Worked
