pub mod Counts
pub mod Finding
pub mod Rendering
pub mod Rows
mod Readable
mod Naming
mod Heads
mod Crossing
