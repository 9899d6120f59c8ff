-- Digests of lists.
pub mod Digest
