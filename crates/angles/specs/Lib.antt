-- Angles, and symbols turned by them: words of document 01's "Slot sync and carrier" and "Phase".
pub mod Angles
