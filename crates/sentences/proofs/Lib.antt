pub mod Appending
pub mod Bytes
pub mod Shown
mod Hiding
