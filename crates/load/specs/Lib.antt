pub mod Laws
pub mod Loads
pub mod Ranges
pub mod Turns
