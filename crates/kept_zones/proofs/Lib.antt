pub mod Changes
pub mod Pruning
pub mod Finding
pub mod Maps
pub mod Steps
pub mod Slots
