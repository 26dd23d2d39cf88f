pub mod Layout
pub mod Ways
pub mod Frames
pub mod Edges
pub mod Strips
