pub mod Ids
pub mod Linked
