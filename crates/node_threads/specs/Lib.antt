pub mod Numbers
pub mod Stores
pub mod Snapshots
pub mod Closings
pub mod Joins
