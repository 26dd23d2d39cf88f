pub mod Sayings
pub mod Reasons
