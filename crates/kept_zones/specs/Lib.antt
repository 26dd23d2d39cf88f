pub mod Overwriting
pub mod Places
pub mod Nearest
pub mod Indexes
