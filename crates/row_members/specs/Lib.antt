pub mod Names
pub mod Values
pub mod Scalars
pub mod Scans
