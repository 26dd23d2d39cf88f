pub mod Calls
pub mod Unnoted
pub mod OrderReasons
pub mod TagReasons
pub mod Notes
