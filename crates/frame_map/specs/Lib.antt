-- The definitions that the contracts of frame_map cite, written from document 01, "The receiver".
pub mod Map
pub mod Reference
