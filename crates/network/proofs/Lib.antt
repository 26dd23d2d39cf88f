mod Bags
pub mod Lookups
mod Hashed
mod Writing
pub mod Agreement
pub mod Unsending
