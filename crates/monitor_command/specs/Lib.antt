pub mod Files
pub mod Tellings
pub mod Countings
pub mod Endings
