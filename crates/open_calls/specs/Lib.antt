pub mod Open
pub mod Rows
pub mod Reasons
pub mod Steps
pub mod Indexes
pub mod Numbered
pub mod Kept
