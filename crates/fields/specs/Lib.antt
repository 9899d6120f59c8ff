-- Numbers of a call as fields, flags, lent parts.
pub mod Fields
